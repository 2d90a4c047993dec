use Rattle.om_laws.specs.Circuits.{IsCircuit, IsCocircuit}
use Rattle.om_laws.proofs.TwoElements.{circuit_supported, cocircuit_supported}
use Rattle.om_laws.proofs.DualPairs.{dual_pair, swapped_pair}
use Rattle.om_laws.proofs.PairElimination as laws
use Rattle.om_laws.proofs.circuits.strong_elimination.Goals as goal

pub returns-clause-cocircuits : goal.returns-clause-cocircuits
returns-clause-cocircuits c =
    λ E chi om X Y x y e h s o n. laws.elimination_at E (IsCircuit E chi) (IsCocircuit chi) (dual_pair E chi om)
    (cocircuit_supported E chi om) X Y x y e h s.1 s.0 n o

pub returns-clause-circuits : goal.returns-clause-circuits
returns-clause-circuits c = λ E chi om X Y x y e h s o n. laws.elimination_at E (IsCocircuit chi) (IsCircuit E chi)
    (swapped_pair E chi om) (circuit_supported E chi om) X Y x y e h s.1 s.0 n o
