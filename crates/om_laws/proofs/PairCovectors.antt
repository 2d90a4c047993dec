-- Covectors and cocircuits of a dual pair of sets of sign vectors: each is told by the others.
--
-- Main results: the covectors are the compositions of cocircuits (covector_is_composition, composition_is_covector),
-- and the cocircuits are the nonzero covectors of minimal support (cocircuit_minimal, minimal_is_cocircuit); a vector
-- is orthogonal to all covectors exactly if it is orthogonal to all cocircuits (orthogonal_to_covectors,
-- orthogonal_to_cocircuits). For circuits and vectors, take the pair in the other order.
-- Reference: Björner, Las Vergnas, Sturmfels, White and Ziegler, Oriented Matroids, chapters 3 and 4.
use Rattle.std.specs.Prelude.{ℕ, ◌≡◌, refl, List, [], ◌∷◌}
use Rattle.std.proofs.Common.{sym, ◌∙◌, ap, subst, ⊎_elim}
use Rattle.om_signs.specs.Sign.{opposite, product}
use Rattle.om_signs.proofs.SignLaws.{zero_or_nonzero, opposite_nonzero, nonzero_if_opposite, right_nonzero}
use Rattle.om_laws.specs.Compositions.{IsConformalComposition, EachVector, HasConformingParts, composition_of}
use Rattle.om_laws.specs.Covectors.{HasLeastSupport, IsCovectorOf, IsOrthogonalToAll}
use Rattle.om_laws.specs.Signs.{IsNonzero}
use Rattle.om_laws.specs.Vectors.{SignVector, HasNonzero}
use Rattle.om_laws.proofs.DualPairs.{IsDualPair}
use Rattle.om_laws.proofs.PartLaws.{conformal_from_parts}
use Rattle.om_laws.proofs.PairElimination.{conformal_decomposition, orthogonal_from_parts}
use Rattle.om_laws.proofs.PairAxioms.{incomparable, cocircuit_is_covector, covector_axioms}
use Rattle.om_laws.proofs.VectorLaws.{opposite_product, orthogonal_from, orthogonal_same}

-- being a covector depends on the signs alone
pub covector_same : (E : List ℕ) (C : SignVector → Type 0) (X Y : SignVector) → ((e : ℕ) → X e ≡ Y e)
    → IsCovectorOf E C Y → IsCovectorOf E C X
covector_same E C X Y q y = record {
  orthogonal = λ V v. orthogonal_same X Y V V q (λ e. refl) (y.orthogonal V v);
  supported = λ e n. y.supported e (subst IsNonzero (q e) n);
}

module _ (E : List ℕ) (C D : SignVector → Type 0) (pair : IsDualPair E C D) where
  pub composition_is_covector : (Ys : List SignVector) → EachVector D Ys → IsCovectorOf E C (composition_of Ys)
  composition_is_covector [] d = (covector_axioms E C D pair).zero
  composition_is_covector (Y ∷ Ys) d =
      (covector_axioms E C D pair).composition_closed Y (composition_of Ys) (cocircuit_is_covector E C D pair Y d.0)
      (composition_is_covector Ys d.1)

  pub covector_is_composition : (X : SignVector) → IsCovectorOf E C X → IsConformalComposition D X
  covector_is_composition X x =
      conformal_from_parts D X (conformal_decomposition E C D pair X x.supported x.orthogonal) E x.supported

  -- made of conforming cocircuits
  pub covector_from_parts : (X : SignVector) → HasConformingParts D X → IsCovectorOf E C X
  covector_from_parts X d = record {
    orthogonal = orthogonal_from_parts E C D pair X d;
    supported = λ e n. (let y = d e n in pair.cocircuit_supported y.0 y.1 e (subst IsNonzero (sym y.2) n));
  }

  pub parts_of_covector : (X : SignVector) → IsCovectorOf E C X → HasConformingParts D X
  parts_of_covector X x = conformal_decomposition E C D pair X x.supported x.orthogonal

  pub cocircuit_minimal : (Y : SignVector) → D Y → HasLeastSupport (IsCovectorOf E C) Y
  cocircuit_minimal Y d Z z n sub g m =
      ⊎_elim
      (λ q. subst IsNonzero (sym (q g)) m)
      (λ q. nonzero_if_opposite (Z g) (Y g) (q g) m)
      (incomparable E C D pair Z Y z.orthogonal d sub n.0 n.1)

  pub minimal_is_cocircuit : (X : SignVector) → IsCovectorOf E C X → HasNonzero X → HasLeastSupport (IsCovectorOf E C) X
      → (Y : SignVector) × D Y × ((g : ℕ) → X g ≡ Y g)
  minimal_is_cocircuit X x n least =
      let y = conformal_decomposition E C D pair X x.supported x.orthogonal n.0 n.1 in
      let ny : IsNonzero (y.0 n.0) = subst IsNonzero (sym y.2) n.1 in
      let back = least y.0 (cocircuit_is_covector E C D pair y.0 y.1) (n.0, ny)
      (λ g m. subst IsNonzero (y.3 g m) m) in (
        y.0,
        y.1,
        λ g. ⊎_elim
            (λ z. ⊎_elim (λ zy. z ∙ sym zy) (λ m. sym (y.3 g m)) (zero_or_nonzero (y.0 g)))
            (λ m. sym (y.3 g (back g m)))
            (zero_or_nonzero (X g)),
      )

  -- a vector that is orthogonal to all cocircuits of a dual pair is orthogonal to all its covectors
  pub orthogonal_to_covectors : (Y : SignVector) → IsOrthogonalToAll D Y → IsOrthogonalToAll (IsCovectorOf E C) Y
  orthogonal_to_covectors Y o X x = orthogonal_from Y X (λ e t n h.
      let z = conformal_decomposition E C D pair X x.supported x.orthogonal e (right_nonzero (Y e) (X e) t h n) in
      let k = opposite_product Y z.0 (o z.0 z.1) e t n (ap (product (Y e)) z.2 ∙ h) in (
        k.0,
        ap (product (Y k.0))
            (sym (z.3 k.0 (right_nonzero (Y k.0) (z.0 k.0) (opposite t) k.1 (opposite_nonzero t n)))) ∙ k.1,
      ))

  -- a vector that is orthogonal to all covectors of a dual pair is orthogonal to all its cocircuits
  pub orthogonal_to_cocircuits : (Y : SignVector) → IsOrthogonalToAll (IsCovectorOf E C) Y → IsOrthogonalToAll D Y
  orthogonal_to_cocircuits Y o X d = o X (cocircuit_is_covector E C D pair X d)
