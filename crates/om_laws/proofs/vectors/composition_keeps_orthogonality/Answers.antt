use Rattle.om_laws.proofs.VectorLaws.{orthogonal_composition}
use Rattle.om_laws.proofs.vectors.composition_keeps_orthogonality.Goals as goal

pub returns : goal.returns
returns c = λ X Y Z x y. orthogonal_composition X Y Z x y
