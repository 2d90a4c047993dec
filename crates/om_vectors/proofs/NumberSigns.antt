-- Signs of whole numbers.
--
-- Main results: sign-neg and sign-times, the signs of a negative and of a product; sign_zero, that only 0 has the sign
-- zero; balanced, that numbers whose sum is 0 include a plus exactly where they include a minus.
use Rattle.std.proofs.Common.{ℕ, zero, suc, ◌≡◌, ◌*◌, ◌<◌, ◌⊎◌, ◌↔◌, List, [], ◌∷◌, refl, sym, ◌∙◌, ap, inl, inr, arith}
use Rattle.std.proofs.Common.{map}
use Rattle.std.specs.Prelude.{ℤ, pos, negsuc, ◌*ℤ◌, neg_ℤ, ◌≤ℤ◌, ◌<ℤ◌}
use Rattle.std.proofs.lemmas.Int.{ints}
use Rattle.std.proofs.Math.IntN.{zero-*ℤ, *ℤ-zero}
use Rattle.om_signs.specs.declared.sign.Sign.{Sign}
use Rattle.om_signs.specs.declared.sign.Sign.TheVariants.{Minus, Zero, Plus}
use Rattle.om_signs.specs.Sign.{opposite, product}
use Rattle.om_vectors.specs.WholeVectors.{sign_of}
use Rattle.om_vectors.specs.Balance.{total, HasSign}

-- the sign of the negative of a number is the opposite of its sign
pub sign-neg : (z : ℤ) → sign_of (neg_ℤ z) ≡ opposite (sign_of z)
sign-neg (pos zero) = refl
sign-neg (pos (suc n)) = refl
sign-neg (negsuc n) = refl

positive : (n : ℕ) → 0 < n → sign_of (pos n) ≡ Plus
positive zero l = absurd (omega arith)
positive (suc n) l = refl

-- the sign of a product of numbers is the product of their signs
pub sign-times : (a b : ℤ) → sign_of (a *ℤ b) ≡ product (sign_of a) (sign_of b)
sign-times (pos zero) b = ap sign_of (zero-*ℤ b)
sign-times (pos (suc a)) (pos zero) = ap sign_of (*ℤ-zero (pos (suc a)))
sign-times (pos (suc a)) (pos (suc b)) = positive (suc a * suc b) (omega arith)
sign-times (pos (suc a)) (negsuc b) = sign-neg (pos (suc a * suc b))
    ∙ ap opposite (positive (suc a * suc b) (omega arith))
sign-times (negsuc a) (pos zero) = ap sign_of (*ℤ-zero (negsuc a))
sign-times (negsuc a) (pos (suc b)) = sign-neg (pos (suc a * suc b))
    ∙ ap opposite (positive (suc a * suc b) (omega arith))
sign-times (negsuc a) (negsuc b) = positive (suc a * suc b) (omega arith)

pub sign_zero : (z : ℤ) → sign_of z ≡ Zero → z ≡ pos 0
sign_zero (pos zero) e = refl
sign_zero (pos (suc n)) e = cc
sign_zero (negsuc n) e = cc

at_least : (zs : List ℤ) → HasSign zs Minus ⊎ (pos 0 ≤ℤ total zs)
at_least [] = inr (omega (arith, ints))
at_least (pos n ∷ zs) = elim (at_least zs) [ inl m ↦ inl (inr m) | inr h ↦ inr (omega (arith, ints)) ]
at_least (negsuc n ∷ zs) = inl (inl refl)

above : (zs : List ℤ) → HasSign zs Plus → HasSign zs Minus ⊎ (pos 0 <ℤ total zs)
above [] h = absurd h
above (pos zero ∷ zs) (inl e) = absurd (cc)
above (pos (suc n) ∷ zs) h = elim (at_least zs) [ inl m ↦ inl (inr m) | inr l ↦ inr (omega (arith, ints)) ]
above (pos zero ∷ zs) (inr h) = elim (above zs h) [ inl m ↦ inl (inr m) | inr l ↦ inr (omega (arith, ints)) ]
above (negsuc n ∷ zs) h = inl (inl refl)

minus_from_plus : (zs : List ℤ) → total zs ≡ pos 0 → HasSign zs Plus → HasSign zs Minus
minus_from_plus zs e h = elim (above zs h) [ inl m ↦ m | inr l ↦ absurd (omega (arith, ints)) ]

total-negated : (zs : List ℤ) → total (map neg_ℤ zs) ≡ neg_ℤ (total zs)
total-negated [] = refl
total-negated (z ∷ zs) = let i = total-negated zs in omega (arith, ints)

has-negated : (zs : List ℤ) (s : Sign) → HasSign zs s → HasSign (map neg_ℤ zs) (opposite s)
has-negated [] s h = absurd h
has-negated (z ∷ zs) s (inl e) = inl (sign-neg z ∙ ap opposite e)
has-negated (z ∷ zs) s (inr h) = inr (has-negated zs s h)

has-back : (zs : List ℤ) (s : Sign) → HasSign (map neg_ℤ zs) (opposite s) → HasSign zs s
has-back [] s h = absurd h
has-back (z ∷ zs) s (inl e) = inl (turned (sign_of z) s (sym (sign-neg z) ∙ e))
  where
    turned : (a b : Sign) → opposite a ≡ opposite b → a ≡ b
    turned a b e = grind arith
has-back (z ∷ zs) s (inr h) = inr (has-back zs s h)

pub balanced : (zs : List ℤ) → total zs ≡ pos 0 → HasSign zs Plus ↔ HasSign zs Minus
balanced zs e = (
  minus_from_plus zs e,
  λ h. has-back zs Plus (minus_from_plus (map neg_ℤ zs) (total-negated zs ∙ ap neg_ℤ e) (has-negated zs Minus h)),
)
