use Rattle.om_laws.specs.Circuits.{IsCircuit, IsCocircuit}
use Rattle.om_laws.proofs.DualPairs.{dual_pair, swapped_pair}
use Rattle.om_laws.proofs.PairCovectors as laws
use Rattle.om_laws.proofs.covectors.vectors_and_covectors.Goals as goal

pub returns-clause-covectors : goal.returns-clause-covectors
returns-clause-covectors c =
    λ E chi om X s. (
      λ x. laws.orthogonal_to_covectors E (IsCocircuit chi) (IsCircuit E chi) (swapped_pair E chi om) X x.orthogonal,
      λ o. record {
        orthogonal =
            laws.orthogonal_to_cocircuits E (IsCocircuit chi) (IsCircuit E chi) (swapped_pair E chi om) X o;
        supported = s;
      },
    )

pub returns-clause-vectors : goal.returns-clause-vectors
returns-clause-vectors c =
    λ E chi om X s. (
      λ x. laws.orthogonal_to_covectors E (IsCircuit E chi) (IsCocircuit chi) (dual_pair E chi om) X x.orthogonal,
      λ o. record {
        orthogonal =
            laws.orthogonal_to_cocircuits E (IsCircuit E chi) (IsCocircuit chi) (dual_pair E chi om) X o;
        supported = s;
      },
    )
