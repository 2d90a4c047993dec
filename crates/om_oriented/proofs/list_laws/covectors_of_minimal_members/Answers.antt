use Rattle.om_denotation.proofs.CocircuitLaws.{composed}
use Rattle.om_oriented.proofs.list_laws.covectors_of_minimal_members.Goals as goal

pub returns : goal.returns
returns c = λ n members lengths axioms cocircuits those. composed n members lengths axioms cocircuits those
