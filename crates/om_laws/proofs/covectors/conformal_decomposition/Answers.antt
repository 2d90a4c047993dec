use Rattle.om_laws.specs.Circuits.{IsCircuit, IsCocircuit}
use Rattle.om_laws.proofs.CovectorLaws as laws
use Rattle.om_laws.proofs.DualPairs.{dual_pair, swapped_pair}
use Rattle.om_laws.proofs.covectors.conformal_decomposition.Goals as goal

pub returns-clause-covectors : goal.returns-clause-covectors
returns-clause-covectors c =
    λ E chi om X. laws.conformal_both E (IsCircuit E chi) (IsCocircuit chi) (dual_pair E chi om) X

pub returns-clause-vectors : goal.returns-clause-vectors
returns-clause-vectors c = λ E chi om X. laws.conformal_both E (IsCocircuit chi) (IsCircuit E chi)
    (swapped_pair E chi om) X
