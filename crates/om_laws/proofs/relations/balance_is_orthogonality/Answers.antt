use Rattle.om_laws.proofs.RelationLaws.{orthogonal_from_balanced, balanced_from_orthogonal}
use Rattle.om_laws.proofs.relations.balance_is_orthogonality.Goals as goal

pub returns : goal.returns
returns c = λ chi s u d. (orthogonal_from_balanced chi s u d, balanced_from_orthogonal chi s u d)
