use Rattle.om_symmetry.proofs.Axioms.{acted_chirotope}
use Rattle.om_symmetry.proofs.laws.images_of_chirotopes.Goals as goal

pub returns : goal.returns
returns c = λ m w p om. acted_chirotope m w p om
