use Rattle.om_laws.specs.Circuits.{IsCircuit, IsCocircuit}
use Rattle.om_laws.proofs.CovectorLaws as laws
use Rattle.om_laws.proofs.DualPairs.{dual_pair, swapped_pair}
use Rattle.om_laws.proofs.covectors.minimal_support.Goals as goal

pub returns-clause-cocircuits : goal.returns-clause-cocircuits
returns-clause-cocircuits c =
    λ E chi om X. laws.minimal_both E (IsCircuit E chi) (IsCocircuit chi) (dual_pair E chi om) (laws.cocircuit_same chi)
    X

pub returns-clause-circuits : goal.returns-clause-circuits
returns-clause-circuits c = λ E chi om X. laws.minimal_both E (IsCocircuit chi) (IsCircuit E chi)
    (swapped_pair E chi om) (laws.circuit_same E chi) X
