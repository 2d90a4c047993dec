use Rattle.std.proofs.Common.{add-one, length}
use Rattle.om_laws.proofs.RelationLaws.{around_at, around_zero}
use Rattle.om_laws.proofs.relations.around_a_list.Goals as goal

pub returns-clause-at : goal.returns-clause-at
returns-clause-at c = λ chi u e v d. rw (add-one (length u)) (around_at chi u e v d)

pub returns-clause-off : goal.returns-clause-off
returns-clause-off c = λ chi t e n. around_zero chi t e n
