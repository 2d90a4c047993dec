use Rattle.std.proofs.Common.{rules}
use Rattle.om_text.proofs.kind.first_stage.Goals as goal

pub returns-in-One : goal.returns-in-One
returns-in-One c = search rules
