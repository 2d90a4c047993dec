use Rattle.om_rows.proofs.Narrow.{stored_difference}
use Rattle.om_rows.proofs.combining.difference.Goals as goal

pub returns : goal.returns
returns c = let r = c.ranges in stored_difference c.args.t c.args.x c.args.s c.args.y r.t r.x r.s r.y c.requires
