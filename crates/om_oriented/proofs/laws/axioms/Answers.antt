use Rattle.om_denotation.proofs.FamilyAxioms.{circuit_axioms, cocircuit_axioms, covector_axioms}
use Rattle.om_oriented.proofs.laws.axioms.Goals as goal

pub returns-clause-circuits : goal.returns-clause-circuits
returns-clause-circuits c = circuit_axioms

pub returns-clause-cocircuits : goal.returns-clause-cocircuits
returns-clause-cocircuits c = cocircuit_axioms

pub returns-clause-covectors : goal.returns-clause-covectors
returns-clause-covectors c = covector_axioms
