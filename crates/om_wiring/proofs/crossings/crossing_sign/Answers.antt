use Rattle.std.proofs.Common.{rules}
use Rattle.om_wiring.proofs.crossings.crossing_sign.Goals as goal

pub returns : goal.returns
returns c = search rules
