use Rattle.om_laws.specs.Circuits.{IsCircuit, IsCocircuit}
use Rattle.om_laws.proofs.DualLaws as laws
use Rattle.om_laws.proofs.DualPairs.{dual_pair}
use Rattle.om_laws.proofs.PairCovectors.{orthogonal_to_covectors, orthogonal_to_cocircuits}
use Rattle.om_laws.proofs.dual.duality.Goals as goal

pub returns-clause-chirotope : goal.returns-clause-chirotope
returns-clause-chirotope c = λ E d chi om. laws.dual_chirotope E d chi om

pub returns-clause-circuits : goal.returns-clause-circuits
returns-clause-circuits c = λ E d chi om X. (laws.dual_circuit E d chi om X, laws.cocircuit_dual E d chi om X)

pub returns-clause-cocircuits : goal.returns-clause-cocircuits
returns-clause-cocircuits c = λ E d chi om X. (laws.dual_cocircuit E d chi om X, laws.circuit_dual E d chi om X)

pub returns-clause-covectors : goal.returns-clause-covectors
returns-clause-covectors c =
    λ E d chi om X. (laws.dual_covector_vector E d chi om X, laws.vector_dual_covector E d chi om X)

pub returns-clause-orthogonal : goal.returns-clause-orthogonal
returns-clause-orthogonal c =
    λ E d chi om X s. (
      λ x. orthogonal_to_covectors E (IsCircuit E chi) (IsCocircuit chi) (dual_pair E chi om) X
          (laws.dual_covector_vector E d chi om X x).orthogonal,
      λ o. laws.vector_dual_covector E d chi om X
          (record {
            orthogonal = orthogonal_to_cocircuits E (IsCircuit E chi) (IsCocircuit chi) (dual_pair E chi om) X o;
            supported = s;
          }),
    )
