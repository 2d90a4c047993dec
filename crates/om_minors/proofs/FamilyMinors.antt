-- Minors and reorientations of families of sign vectors, and of their duals.
--
-- Main results: what is a deletion, a contraction, a reorientation or a dual is one of families that denote the same
-- (deletion_same, contraction_same, reorientation_same, dual_between); the dual of a deletion is the contraction of the
-- dual (dual_contraction); chirotopes with the covectors of a contraction and of a reorientation
-- (contraction_exists, reorientation_exists).
-- Reference: Björner, Las Vergnas, Sturmfels, White and Ziegler, Oriented Matroids, chapters 3 and 4.
use Rattle.std.specs.Prelude.{ℕ, ◌≡◌, ◌+◌, ◌-◌, ◌<◌, ◌≤◌, List, length, refl, true}
use Rattle.std.specs.List.{insert, remove}
use Rattle.std.proofs.Common.{sym, ◌∙◌, subst, ⊎_elim, arith}
use Rattle.std.proofs.lemmas.List.Edits.{length-insert, length-remove, get_or-insert_at}
use Rattle.om_signs.specs.declared.sign.Sign.{Sign}
use Rattle.om_signs.specs.declared.sign.Sign.TheVariants.{Zero}
use Rattle.om_signs.specs.SignVec.{flip, IsOrthogonal}
use Rattle.om_chirotope.specs.Map.{SignMap}
use Rattle.om_chirotope.specs.Chirotope.{IsChirotope}
use Rattle.om_denotation.specs.Covectors.{IsCovectorOfChirotope}
use Rattle.om_denotation.specs.Denotation.{DenoteTheSame}
use Rattle.om_denotation.specs.Operations.{IsDual, IsWithout, IsZeroWithout, IsDeletion, IsContraction, IsReorientation}
use Rattle.om_denotation.proofs.NormalForms.{normal_elements, normal_exists}
use Rattle.om_denotation.proofs.Uniqueness.{normal_axioms}
use Rattle.om_minors.specs.Minors.{deleted, contracted, reoriented_on}
use Rattle.om_minors.proofs.BasisLaws.{basis_without, decide_basis}
use Rattle.om_minors.proofs.MinorLists.{contraction_at, loop_contraction}
use Rattle.om_minors.proofs.MinorMaps.{deleted_axioms, contracted_axioms}
use Rattle.om_minors.proofs.DualMinors.{orthogonal_removed, orthogonal_restored, orthogonal_turned, removed_insert}
use Rattle.om_minors.proofs.FlippedLists.{length-flip}
use Rattle.om_minors.proofs.Turning.{reoriented_axioms, is_reorientation}

-- ---- families that denote the same

-- each family denotes the same as itself
pub the_same : (n : ℕ) (P : List Sign → Type 0) → DenoteTheSame n P P
the_same n P X l = (λ x. x, λ x. x)

pub deletion_same : (n k e : ℕ) (P Q A B : List Sign → Type 0) → k + 1 ≡ n → DenoteTheSame n P A → DenoteTheSame k Q B
    → IsDeletion n e A B → IsDeletion n e P Q
deletion_same n k e P Q A B size a b h X l = of_size (omega arith)
  where
    of_size : length X ≡ k → (Q X → IsWithout n e P X) × (IsWithout n e P X → Q X)
    of_size lx = (
      λ q. let w = (h X l).0 ((b X lx).0 q) in (w.0, w.1, (a w.0 w.1).1 w.2, w.3),
      λ w. (b X lx).1 ((h X l).1 (w.0, w.1, (a w.0 w.1).0 w.2, w.3)),
    )

pub contraction_same : (n k e : ℕ) (P Q A B : List Sign → Type 0) → k + 1 ≡ n → DenoteTheSame n P A
    → DenoteTheSame k Q B → IsContraction n e A B → IsContraction n e P Q
contraction_same n k e P Q A B size a b h X l = of_size (omega arith)
  where
    of_size : length X ≡ k → (Q X → IsZeroWithout n e P X) × (IsZeroWithout n e P X → Q X)
    of_size lx = (
      λ q. let w = (h X l).0 ((b X lx).0 q) in (w.0, w.1, (a w.0 w.1).1 w.2, w.3, w.4),
      λ w. (b X lx).1 ((h X l).1 (w.0, w.1, (a w.0 w.1).0 w.2, w.3, w.4)),
    )

pub reorientation_same : (mask n : ℕ) (P Q A B : List Sign → Type 0) → DenoteTheSame n P A → DenoteTheSame n Q B
    → IsReorientation n mask A B → IsReorientation n mask P Q
reorientation_same mask n P Q A B a b h X l =
    let size = length-flip mask X ∙ l in
    (λ q. (a (flip mask X) size).1 ((h X l).0 ((b X l).0 q)), λ p. (b X l).1 ((h X l).1 ((a (flip mask X) size).0 p)))

-- families that denote the same as a family and its dual are a family and its dual
pub dual_between : (n : ℕ) (P Q A B : List Sign → Type 0) → DenoteTheSame n P A → DenoteTheSame n Q B → IsDual n P Q
    → IsDual n A B
dual_between n P Q A B a b dual Y l = (
  λ y X lx x. (dual Y l).0 ((b Y l).1 y) X lx ((a X lx).1 x),
  λ all. (b Y l).0 ((dual Y l).1 (λ X lx x. all X lx ((a X lx).0 x))),
)

-- ---- duals of minors

module _ (n e : ℕ) (low : 1 ≤ e) (high : e ≤ n) (P P' Q Q' : List Sign → Type 0) (dual : IsDual n P P')
    (less : IsDual (n - 1) Q Q') (deletion : IsDeletion n e P Q) where
  -- what is orthogonal to the deletion is orthogonal to the whole with a zero at e
  zero_at : (X : List Sign) → length X + 1 ≡ n → Q' X → IsZeroWithout n e P' X
  zero_at X l x =
      let before : e - 1 ≤ length X = omega (arith, l, low, high) in
      let longer = length-insert X (e - 1) Zero before in
      let size : length (insert X (e - 1) Zero) ≡ n = longer ∙ l in
      let short : length X ≡ n - 1 = omega arith in
      let gone = get_or-insert_at X (e - 1) Zero Zero before in
      let back = removed_insert X (e - 1) before in
      let each : (W : List Sign) → length W ≡ n → P W → IsOrthogonal (insert X (e - 1) Zero) W = λ W lw w.
      let inside : e - 1 < length W = omega (arith, lw, low, high) in
      let fewer : length (remove W (e - 1)) + 1 ≡ n = length-remove W (e - 1) inside ∙ lw in
      let smaller : length (remove W (e - 1)) ≡ n - 1 = omega (arith, fewer) in
      let part = (less X short).0 x (remove W (e - 1)) smaller ((deletion (remove W (e - 1)) fewer).1 (W, lw, w, refl))
      in
      orthogonal_turned W (insert X (e - 1) Zero)
      (orthogonal_restored W (insert X (e - 1) Zero) (e - 1) inside (size ∙ sym lw) gone
      (subst (IsOrthogonal (remove W (e - 1))) (sym back) (orthogonal_turned X (remove W (e - 1)) part))) in
      (insert X (e - 1) Zero, size, (dual (insert X (e - 1) Zero) size).1 each, gone, back)

  from_zero : (X : List Sign) → length X + 1 ≡ n → IsZeroWithout n e P' X → Q' X
  from_zero X l (V, lv, v, gone, r) = of_size (omega arith)
    where
      orthogonal : (Z : List Sign) → IsWithout n e P Z → IsOrthogonal X Z
      orthogonal Z (W, lw, w, s) =
          let inside : e - 1 < length W = omega (arith, lw, low, high) in
          subst (IsOrthogonal X) s (subst (λ U. IsOrthogonal U (remove W (e - 1))) r
          (orthogonal_turned (remove W (e - 1)) (remove V (e - 1))
          (orthogonal_removed W V (e - 1) inside (lv ∙ sym lw) gone
          (orthogonal_turned V W ((dual V lv).0 v W lw w)))))

      of_size : length X ≡ n - 1 → Q' X
      of_size short = (less X short).1 (λ Z lz z. orthogonal Z ((deletion Z (omega (arith, lz, low, high))).0 z))

  pub dual_contraction : IsContraction n e P' Q'
  dual_contraction X l = (zero_at X l, from_zero X l)

-- ---- chirotopes with these covectors

pub contraction_exists : (m : SignMap) → IsChirotope m → (e : ℕ) → 2 ≤ m.elements → 1 ≤ e → e ≤ m.elements
    → (d : SignMap) × IsChirotope d × (d.elements ≡ m.elements - 1)
    × IsContraction m.elements e (IsCovectorOfChirotope m) (IsCovectorOfChirotope d)
contraction_exists m om e several low high = ⊎_elim
    (λ b.
    let o = contracted_axioms m om e several low high b in
    let d = normal_exists (contracted e m) o in (
      d.0,
      normal_axioms (contracted e m) d.0 o d.1,
      normal_elements (contracted e m) d.0 d.1,
      contraction_at m om e several low high d.0 b d.1,
    ))
    (λ none.
    let o = deleted_axioms m om e several low high (basis_without m om e none) in
    let d = normal_exists (deleted e m) o in (
      d.0,
      normal_axioms (deleted e m) d.0 o d.1,
      normal_elements (deleted e m) d.0 d.1,
      loop_contraction m om e several low high d.0 none d.1,
    ))
    (decide_basis m e true)

pub reorientation_exists : (m : SignMap) → IsChirotope m → (mask : ℕ)
    → (d : SignMap) × IsChirotope d × (d.elements ≡ m.elements)
    × IsReorientation m.elements mask (IsCovectorOfChirotope m) (IsCovectorOfChirotope d)
reorientation_exists m om mask =
    let o = reoriented_axioms m om mask in
    let d = normal_exists (reoriented_on mask m) o in (
      d.0,
      normal_axioms (reoriented_on mask m) d.0 o d.1,
      normal_elements (reoriented_on mask m) d.0 d.1,
      is_reorientation m om mask d.0 d.1,
    )
