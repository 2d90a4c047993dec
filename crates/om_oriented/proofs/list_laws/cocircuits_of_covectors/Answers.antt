use Rattle.om_denotation.proofs.CocircuitLaws.{minimal_axioms}
use Rattle.om_oriented.proofs.list_laws.cocircuits_of_covectors.Goals as goal

pub returns : goal.returns
returns c = λ n members lengths axioms cocircuits those. minimal_axioms n members lengths axioms cocircuits those
