use Rattle.std.proofs.Common.{rules}
use Rattle.om_text.proofs.kind.open.Goals as goal

pub returns-then-elements-lt1 : goal.returns-then-elements-lt1
returns-then-elements-lt1 c = search rules
