-- Orthogonality of sign vectors.
--
-- Main results: orthogonality is symmetric (orthogonal_sym), and is kept by negation (orthogonal_negated) and by
-- composition (orthogonal_composition); it says that where a product is nonzero another is its opposite
-- (opposite_product, orthogonal_from); it is that of vectors that are equal up to sign (orthogonal_up_to_sign).
-- Reference: Björner, Las Vergnas, Sturmfels, White and Ziegler, Oriented Matroids, chapter 3.
use Rattle.std.proofs.Common.{⊎_elim, ℕ, refl, arith, inl, inr, sym, ap, ◌≡◌, ◌≢◌, ◌⊎◌, ◌∙◌, subst}
use Rattle.std.proofs.lemmas.Bool.{cases_eq}
use Rattle.om_signs.specs.declared.sign.Sign.{Sign}
use Rattle.om_signs.specs.declared.sign.Sign.TheVariants.{Minus, Zero, Plus}
use Rattle.om_signs.specs.Sign.{opposite, product, first_nonzero}
use Rattle.om_signs.proofs.SignLaws.{product_opposites, opposite_zero, opposite-opposite, plus_nonzero, minus_nonzero}
use Rattle.om_signs.proofs.SignLaws.{product_comm, product-opposite_left, product_turned_out, opposite_swap}
use Rattle.om_signs.proofs.SignLaws.{not_own_opposite, opposite_nonzero}
use Rattle.om_laws.specs.Vectors.{SignVector, zero_vector, negated, composition, HasProduct, Orthogonal}
use Rattle.om_laws.specs.Vectors.{AreEqualUpToSign}
use Rattle.om_laws.specs.Signs.{IsNonzero}

HasProduct_sym : (x y : SignVector) (s : Sign) → HasProduct x y s → HasProduct y x s
HasProduct_sym x y s (e, p) = (e, product_comm (y e) (x e) ∙ p)

-- orthogonality of sign vectors is symmetric
pub orthogonal_sym : (x y : SignVector) → Orthogonal x y → Orthogonal y x
orthogonal_sym x y o = record {
  minus = λ h. HasProduct_sym x y Minus (o.minus (HasProduct_sym y x Plus h));
  plus = λ h. HasProduct_sym x y Plus (o.plus (HasProduct_sym y x Minus h));
}

HasProduct_negated : (x y : SignVector) (s : Sign) → HasProduct x y s → HasProduct (negated x) y (opposite s)
HasProduct_negated x y s (e, p) = (e, product-opposite_left (x e) (y e) ∙ ap opposite p)

HasProduct_from_negated : (x y : SignVector) (s : Sign) → HasProduct (negated x) y s → HasProduct x y (opposite s)
HasProduct_from_negated x y s (e, p) = (e, product_turned_out (x e) (y e) s p)

pub orthogonal_negated : (x y : SignVector) → Orthogonal x y → Orthogonal (negated x) y
orthogonal_negated x y o = record {
  minus = λ h. HasProduct_negated x y Plus (o.plus (HasProduct_from_negated x y Plus h));
  plus = λ h. HasProduct_negated x y Minus (o.minus (HasProduct_from_negated x y Minus h));
}

cases_first : (a b c s : Sign) → product (first_nonzero a b) c ≡ s → (product a c ≡ s)
    ⊎ ((a ≡ Zero) × (product b c ≡ s))
cases_first a b c s p = grind arith

pick_first : (a b c s : Sign) → s ≢ Zero → product a c ≡ s → product (first_nonzero a b) c ≡ s
pick_first a b c s n p = grind arith

pick_second : (a b c s : Sign) → s ≢ Zero → product b c ≡ s → (product (first_nonzero a b) c ≡ s)
    ⊎ (product a c ≡ opposite s)
pick_second a b c s n p = grind arith

half : (x y z : SignVector) (s t : Sign) → s ≢ Zero → t ≢ Zero → opposite t ≡ s → (HasProduct x z s → HasProduct x z t)
    → (HasProduct y z s → HasProduct y z t) → HasProduct (composition x y) z s → HasProduct (composition x y) z t
half x y z s t ns nt o fx fy (e, p) = elim (cases_first (x e) (y e) (z e) s p) [
  | inl q ↦ from_x (fx (e, q))
  | inr q ↦ from_y (fy (e, q.1))
]
  where
    from_x : HasProduct x z t → HasProduct (composition x y) z t
    from_x (e, q) = (e, pick_first (x e) (y e) (z e) t nt q)

    from_y : HasProduct y z t → HasProduct (composition x y) z t
    from_y (e, q) = elim (pick_second (x e) (y e) (z e) t nt q) [ inl r ↦ (e, r) | inr r ↦ from_x (fx (e, r ∙ o)) ]

pub orthogonal_composition : (x y z : SignVector) → Orthogonal x z → Orthogonal y z → Orthogonal (composition x y) z
orthogonal_composition x y z p q = record {
  minus = half x y z Plus Minus plus_nonzero minus_nonzero refl p.minus q.minus;
  plus = half x y z Minus Plus minus_nonzero plus_nonzero refl p.plus q.plus;
}

-- where a product is nonzero, another is its opposite
pub opposite_product : (x y : SignVector) → Orthogonal x y → (e : ℕ) (s : Sign) → IsNonzero s → product (x e) (y e) ≡ s
    → (g : ℕ) × (product (x g) (y g) ≡ opposite s)
opposite_product x y o e Minus n p = o.plus (e, p)
opposite_product x y o e Zero n p = absurd (n refl)
opposite_product x y o e Plus n p = o.minus (e, p)

pub orthogonal_from : (x y : SignVector)
    → ((e : ℕ) (s : Sign) → IsNonzero s → product (x e) (y e) ≡ s → (g : ℕ) × (product (x g) (y g) ≡ opposite s))
    → Orthogonal x y
orthogonal_from x y h = record { minus = λ k. h k.0 Plus plus_nonzero k.1; plus = λ k. h k.0 Minus minus_nonzero k.1 }

pub orthogonal_zero : (y : SignVector) → Orthogonal zero_vector y
orthogonal_zero y =
    record { minus = λ (e, p). absurd (plus_nonzero (sym p)); plus = λ (e, p). absurd (minus_nonzero (sym p)) }

-- orthogonality depends on the signs alone
pub orthogonal_same : (x x' y y' : SignVector) → ((e : ℕ) → x e ≡ x' e) → ((e : ℕ) → y e ≡ y' e) → Orthogonal x' y'
    → Orthogonal x y
orthogonal_same x x' y y' a b o = orthogonal_from x y (λ e s n h.
    let k = opposite_product x' y' o e s n (ap (λ z. product z (y' e)) (sym (a e)) ∙ ap (product (x e)) (sym (b e)) ∙ h)
    in
    (k.0, ap (λ z. product z (y k.0)) (a k.0) ∙ ap (product (x' k.0)) (b k.0) ∙ k.1))

pub orthogonal_up_to_sign : (x x' y : SignVector) → AreEqualUpToSign x x' → Orthogonal x' y → Orthogonal x y
orthogonal_up_to_sign x x' y (inl q) o = orthogonal_same x x' y y q (λ e. refl) o
orthogonal_up_to_sign x x' y (inr q) o = orthogonal_same x (negated x') y y q (λ e. refl) (orthogonal_negated x' y o)

pub same_trans : (x y z : SignVector) → AreEqualUpToSign x y → AreEqualUpToSign y z → AreEqualUpToSign x z
same_trans x y z (inl p) (inl q) = inl (λ e. p e ∙ q e)
same_trans x y z (inl p) (inr q) = inr (λ e. p e ∙ q e)
same_trans x y z (inr p) (inl q) = inr (λ e. p e ∙ ap opposite (q e))
same_trans x y z (inr p) (inr q) = inl (λ e. p e ∙ ap opposite (q e) ∙ opposite-opposite (z e))

-- being equal up to sign is symmetric
pub same_sym : (x y : SignVector) → AreEqualUpToSign x y → AreEqualUpToSign y x
same_sym x y s = ⊎_elim (λ q. inl (λ e. sym (q e))) (λ q. inr (λ e. opposite_swap (x e) (y e) (q e))) s

-- of two vectors that are equal up to sign, the first is zero where the second is
pub same_zero : (x y : SignVector) → AreEqualUpToSign x y → (g : ℕ) → y g ≡ Zero → x g ≡ Zero
same_zero x y s g z = ⊎_elim (λ q. q g ∙ z) (λ q. q g ∙ opposite_zero (y g) z) s

-- in two vectors that are equal up to sign, the product of the signs at two elements is the same
pub same_products : (x y : SignVector) → AreEqualUpToSign x y → (g h : ℕ) → product (x g) (x h) ≡ product (y g) (y h)
same_products x y s g h =
    ⊎_elim (λ q. ap (λ z. product z (x h)) (q g) ∙ ap (product (y g)) (q h))
    (λ q. ap (λ z. product z (x h)) (q g) ∙ ap (product (opposite (y g))) (q h) ∙ product_opposites (y g) (y h)) s

-- a nonzero sign of a vector that is equal up to sign is nonzero
pub nonzero_up_to_sign : (x y : SignVector) → AreEqualUpToSign x y → (e : ℕ) → IsNonzero (x e) → IsNonzero (y e)
nonzero_up_to_sign x y (inl q) e n = λ z. n (q e ∙ z)
nonzero_up_to_sign x y (inr q) e n = λ z. n (q e ∙ ap opposite z)

-- two orthogonal vectors with products at two elements alone
pub two_places : (x y : SignVector) → Orthogonal x y → (e h : ℕ)
    → ((g : ℕ) → g ≢ e → g ≢ h → product (x g) (y g) ≡ Zero)
    → IsNonzero (product (x e) (y e)) → product (x h) (y h) ≡ opposite (product (x e) (y e))
two_places x y o e h zero n =
    let k = opposite_product x y o e (product (x e) (y e)) n refl in
    elim (cases_eq k.0 e) [
      | inl q ↦
          absurd (not_own_opposite (product (x e) (y e)) n
          (subst (λ g. product (x g) (y g) ≡ opposite (product (x e) (y e))) q k.1))
      | inr ne ↦ elim (cases_eq k.0 h) [
        | inl q ↦ subst (λ g. product (x g) (y g) ≡ opposite (product (x e) (y e))) q k.1
        | inr nh ↦ absurd (opposite_nonzero (product (x e) (y e)) n (sym k.1 ∙ zero k.0 ne nh))
      ]
    ]
