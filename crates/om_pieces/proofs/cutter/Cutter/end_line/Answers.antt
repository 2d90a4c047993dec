use Rattle.std.proofs.Common.{rules}
use Rattle.om_pieces.proofs.cutter.Cutter.end_line.Goals as goal

pub returns-then-not-closes : goal.returns-then-not-closes
returns-then-not-closes c = search rules

pub returns-then-self-gt1 : goal.returns-then-self-gt1
returns-then-self-gt1 c = search rules

pub returns : goal.returns
returns c = search rules
