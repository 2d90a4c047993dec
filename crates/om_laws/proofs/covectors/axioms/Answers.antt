use Rattle.om_laws.specs.Circuits.{IsCircuit, IsCocircuit}
use Rattle.om_laws.proofs.DualPairs.{dual_pair, swapped_pair}
use Rattle.om_laws.proofs.PairAxioms as laws
use Rattle.om_laws.proofs.covectors.axioms.Goals as goal

pub returns-clause-circuits : goal.returns-clause-circuits
returns-clause-circuits c = λ E chi om. laws.cocircuit_axioms E (IsCocircuit chi) (IsCircuit E chi)
    (swapped_pair E chi om)

pub returns-clause-cocircuits : goal.returns-clause-cocircuits
returns-clause-cocircuits c =
    λ E chi om. laws.cocircuit_axioms E (IsCircuit E chi) (IsCocircuit chi) (dual_pair E chi om)

pub returns-clause-vectors : goal.returns-clause-vectors
returns-clause-vectors c = λ E chi om. laws.covector_axioms E (IsCocircuit chi) (IsCircuit E chi)
    (swapped_pair E chi om)

pub returns-clause-covectors : goal.returns-clause-covectors
returns-clause-covectors c = λ E chi om. laws.covector_axioms E (IsCircuit E chi) (IsCocircuit chi) (dual_pair E chi om)
