-- Orthogonal sign vectors by their supports.
--
-- Main results: by_supports
use Rattle.std.proofs.Common.{ℕ, ◌≡◌, ◌≢◌, ◌↔◌, ◌⊎◌, zero, suc, sym, ◌∙◌, inl, inr, List, [], ◌∷◌}
use Rattle.om_signs.specs.declared.sign.Sign.{Sign}
use Rattle.om_signs.specs.declared.sign.Sign.TheVariants.{Minus, Zero, Plus}
use Rattle.om_signs.specs.Sign.{product}
use Rattle.om_signs.specs.SignVec.{at, HasProduct, IsOrthogonal, HasDisjointSupport}
use Rattle.om_signs.proofs.SignLaws.{product-zero, same_or_different, plus_nonzero, minus_nonzero, left_nonzero}
use Rattle.om_signs.proofs.SignLaws.{right_nonzero, plus_or_minus, product_nonzero}

-- a sign other than zero is among the products or not
pub has_or_not : (xs ys : List Sign) (s : Sign) → s ≢ Zero → HasProduct xs ys s ⊎ (HasProduct xs ys s → ⊥)
has_or_not [] ys s n = inr (λ h. n (sym h.1))
has_or_not (x ∷ xs) [] s n = inr (λ h. n (sym h.1 ∙ product-zero (at (x ∷ xs) h.0)))
has_or_not (x ∷ xs) (y ∷ ys) s n = elim (same_or_different (product x y) s) [
  | inl e ↦ inl (zero, e)
  | inr ne ↦ elim (has_or_not xs ys s n) [
    | inl h ↦ inl (suc h.0, h.1)
    | inr none ↦ inr (λ h. later h.0 h.1 ne none)
  ]
]
  where
    later : (i : ℕ) → product (at (x ∷ xs) i) (at (y ∷ ys) i) ≡ s → product x y ≢ s → (HasProduct xs ys s → ⊥) → ⊥
    later zero e ne none = ne e
    later (suc i) e ne none = none (i, e)

-- no product where the supports are disjoint
none_where_disjoint : (xs ys : List Sign) (r : Sign) → r ≢ Zero → HasDisjointSupport xs ys → HasProduct xs ys r → ⊥
none_where_disjoint xs ys r n d h = d h.0 (left_nonzero (at xs h.0) (at ys h.0) r h.1 n)
    (right_nonzero (at xs h.0) (at ys h.0) r h.1 n)

pub by_supports : (xs ys : List Sign) → IsOrthogonal xs ys
    ↔ (HasDisjointSupport xs ys ⊎ (HasProduct xs ys Plus × HasProduct xs ys Minus))
by_supports xs ys = (
  λ h. elim (has_or_not xs ys Plus plus_nonzero) [
    | inl p ↦ inr (p, h.0 p)
    | inr none ↦ inl (λ i nx ny. elim
        (plus_or_minus (product (at xs i) (at ys i)) (product_nonzero (at xs i) (at ys i) nx ny)) [
          | inl e ↦ none (i, e)
          | inr e ↦ none (h.1 (i, e))
        ])
  ],
  λ c. elim c [
    | inl d ↦ (
      λ p. absurd (none_where_disjoint xs ys Plus plus_nonzero d p),
      λ m. absurd (none_where_disjoint xs ys Minus minus_nonzero d m),
    )
    | inr both ↦ (λ p. both.1, λ m. both.0)
  ],
)
