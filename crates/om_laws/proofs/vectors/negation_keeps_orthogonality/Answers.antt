use Rattle.om_laws.proofs.VectorLaws.{orthogonal_negated}
use Rattle.om_laws.proofs.vectors.negation_keeps_orthogonality.Goals as goal

pub returns : goal.returns
returns c = λ X Y o. orthogonal_negated X Y o
