-- Covectors and cocircuits of a dual pair of sets of sign vectors, in both directions.
--
-- Main results: a vector is a covector exactly if it is a composition of cocircuits (composition_both), of cocircuits
-- that conform to it (conformal_both), and if cocircuits that conform to it reach each of its elements (parts_both);
-- the cocircuits are the nonzero covectors of minimal support (minimal_both). For circuits and vectors, take the pair
-- in the other order. Being a circuit or a cocircuit depends on the signs alone (circuit_same, cocircuit_same).
-- Reference: Björner, Las Vergnas, Sturmfels, White and Ziegler, Oriented Matroids, chapters 3 and 4.
use Rattle.std.specs.Prelude.{ℕ, ◌≡◌, ◌↔◌, List}
use Rattle.std.proofs.Common.{inl, sym, subst}
use Rattle.om_signs.specs.declared.sign.Sign.{Sign}
use Rattle.om_laws.specs.Signs.{IsNonzero}
use Rattle.om_laws.specs.Vectors.{SignVector}
use Rattle.om_laws.specs.Relations.{around, along}
use Rattle.om_laws.specs.Circuits.{IsCircuit, IsCocircuit}
use Rattle.om_laws.specs.Covectors.{IsCovectorOf, IsMinimal}
use Rattle.om_laws.specs.Compositions.{IsComposition, IsConformalComposition, HasConformingParts, composition_of}
use Rattle.om_laws.proofs.VectorLaws.{same_trans}
use Rattle.om_laws.proofs.DualPairs.{IsDualPair}
use Rattle.om_laws.proofs.PairCovectors.{covector_same, composition_is_covector, covector_is_composition}
use Rattle.om_laws.proofs.PairCovectors.{covector_from_parts, parts_of_covector, cocircuit_minimal}
use Rattle.om_laws.proofs.PairCovectors.{minimal_is_cocircuit}
use Rattle.om_laws.proofs.PairAxioms.{cocircuit_is_covector}
use Rattle.om_laws.proofs.PartLaws.{composition_from_conformal}

module _ (E : List ℕ) (C D : SignVector → Type 0) (pair : IsDualPair E C D) where
  covector_from_composition : (X : SignVector) → IsComposition D X → IsCovectorOf E C X
  covector_from_composition X k =
      covector_same E C X (composition_of k.0) k.2 (composition_is_covector E C D pair k.0 k.1)

  pub conformal_both : (X : SignVector) → IsCovectorOf E C X ↔ IsConformalComposition D X
  conformal_both X = (
    covector_is_composition E C D pair X,
    λ k. covector_from_composition X (composition_from_conformal D X k),
  )

  pub composition_both : (X : SignVector) → IsCovectorOf E C X ↔ IsComposition D X
  composition_both X = (
    λ x. composition_from_conformal D X (covector_is_composition E C D pair X x),
    covector_from_composition X,
  )

  pub parts_both : (X : SignVector) → IsCovectorOf E C X ↔ HasConformingParts D X
  parts_both X = (parts_of_covector E C D pair X, covector_from_parts E C D pair X)

  pub minimal_both : ((X Y : SignVector) → ((e : ℕ) → X e ≡ Y e) → D Y → D X) → (X : SignVector) → D X
      ↔ IsMinimal (IsCovectorOf E C) X
  minimal_both same X = (
    λ d. record {
      member = cocircuit_is_covector E C D pair X d;
      nonzero = pair.cocircuit_nonzero X d;
      least = cocircuit_minimal E C D pair X d;
    },
    λ m. let y = minimal_is_cocircuit E C D pair X m.member m.nonzero m.least in same X y.0 y.2 y.1,
  )

-- a sign vector with the same signs as a circuit is a circuit
pub circuit_same : (E : List ℕ) (chi : List ℕ → Sign) (X Y : SignVector) → ((e : ℕ) → X e ≡ Y e) → IsCircuit E chi Y
    → IsCircuit E chi X
circuit_same E chi X Y q c = record {
  tuple = c.tuple;
  distinct = c.distinct;
  within = c.within;
  nonzero = (c.nonzero.0, subst IsNonzero (sym (q c.nonzero.0)) c.nonzero.1);
  same = same_trans X Y (around chi c.tuple) (inl q) c.same;
}

-- a sign vector with the same signs as a cocircuit is a cocircuit
pub cocircuit_same : (chi : List ℕ → Sign) (X Y : SignVector) → ((e : ℕ) → X e ≡ Y e) → IsCocircuit chi Y
    → IsCocircuit chi X
cocircuit_same chi X Y q c = record {
  tuple = c.tuple;
  nonzero = (c.nonzero.0, subst IsNonzero (sym (q c.nonzero.0)) c.nonzero.1);
  same = same_trans X Y (along chi c.tuple) (inl q) c.same;
}
