use Rattle.om_denotation.proofs.FamilyAxioms.{orthogonal}
use Rattle.om_oriented.proofs.laws.orthogonality.Goals as goal

pub returns : goal.returns
returns c = λ m chirotope X Y x y. orthogonal m chirotope X Y x y
