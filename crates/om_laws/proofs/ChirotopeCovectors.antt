-- The covectors of a chirotope, from the laws of a dual pair.
--
-- Main results: cocircuits are covectors (cocircuit_covector); the covector axioms (covector_axioms); a covector is a
-- composition of cocircuits that conform to it (covector_composition).
-- Reference: Björner, Las Vergnas, Sturmfels, White and Ziegler, Oriented Matroids, chapters 3 and 4.
use Rattle.std.specs.Prelude.{ℕ, List}
use Rattle.om_signs.specs.declared.sign.Sign.{Sign}
use Rattle.om_laws.specs.Vectors.{SignVector, HasSupportIn, HasNonzero, AreEqualUpToSign}
use Rattle.om_laws.specs.Chirotope.{IsChirotope}
use Rattle.om_laws.specs.Circuits.{IsCircuit, IsCocircuit}
use Rattle.om_laws.specs.Axioms.{CovectorAxioms}
use Rattle.om_laws.specs.Covectors.{IsCovector}
use Rattle.om_laws.specs.Compositions.{IsConformalComposition}
use Rattle.om_laws.proofs.DualPairs.{dual_pair}
use Rattle.om_laws.proofs.PairAxioms as axioms
use Rattle.om_laws.proofs.PairCovectors as covectors

module _ (E : List ℕ) (chi : List ℕ → Sign) (om : IsChirotope E chi) where
  pub cocircuit_covector : (Y : SignVector) → IsCocircuit chi Y → IsCovector E chi Y
  cocircuit_covector = axioms.cocircuit_is_covector E (IsCircuit E chi) (IsCocircuit chi) (dual_pair E chi om)

  pub covector_axioms : CovectorAxioms (IsCovector E chi)
  covector_axioms = axioms.covector_axioms E (IsCircuit E chi) (IsCocircuit chi) (dual_pair E chi om)

  pub covector_composition : (X : SignVector) → IsCovector E chi X → IsConformalComposition (IsCocircuit chi) X
  covector_composition = covectors.covector_is_composition E (IsCircuit E chi) (IsCocircuit chi) (dual_pair E chi om)

  -- a covector with its support in that of a cocircuit is zero or the cocircuit, up to sign
  pub covector_in_cocircuit : (X Y : SignVector) → IsCovector E chi X → IsCocircuit chi Y → HasSupportIn X Y
      → HasNonzero X → AreEqualUpToSign X Y
  covector_in_cocircuit X Y x y sub n =
      axioms.incomparable E (IsCircuit E chi) (IsCocircuit chi) (dual_pair E chi om) X Y x.orthogonal y sub n.0 n.1
