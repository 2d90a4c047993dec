use Rattle.std.specs.Prelude.{refl}
use Rattle.om_commands.proofs.three_terms.failure_line.Goals as goal

pub returns-in-ThreeTerm : goal.returns-in-ThreeTerm
returns-in-ThreeTerm c = rw c.in-ThreeTerm.is refl
