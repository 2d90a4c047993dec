use Rattle.om_laws.proofs.VectorLaws.{orthogonal_sym}
use Rattle.om_laws.proofs.vectors.orthogonality_is_symmetric.Goals as goal

pub returns : goal.returns
returns c = λ X Y o. orthogonal_sym X Y o
