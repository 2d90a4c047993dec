-- The first nonzero one of two signs.
--
-- Main results: where it comes from (first_nonzero_cases, first_of_two); a factor is multiplied into it
-- (product-first_nonzero).
use Rattle.std.proofs.Common.{refl, arith, inl, inr, sym, ◌≡◌, ◌≢◌, ◌⊎◌, ◌∙◌}
use Rattle.om_signs.specs.declared.sign.Sign.{Sign}
use Rattle.om_signs.specs.declared.sign.Sign.TheVariants.{Minus, Zero, Plus}
use Rattle.om_signs.specs.Sign.{opposite, product, first_nonzero}
use Rattle.om_signs.proofs.SignCases.{plus_nonzero, minus_nonzero}

-- the first nonzero one of a sign and zero is the sign, be it zero itself
pub first_nonzero-zero : (s : Sign) → first_nonzero s Zero ≡ s
first_nonzero-zero s = grind arith

-- the first nonzero one of two signs is the second one, if the first is zero
pub first_nonzero_right : (s t : Sign) → s ≡ Zero → first_nonzero s t ≡ t
first_nonzero_right s t e = grind arith

-- the first nonzero one of two signs is the first one, if that is nonzero
pub first_nonzero_left : (s t : Sign) → s ≢ Zero → first_nonzero s t ≡ s
first_nonzero_left s t n = grind arith

-- the first nonzero one of two signs isn't zero, if the first sign isn't
pub first_nonzero_from_left : (s t : Sign) → s ≢ Zero → first_nonzero s t ≢ Zero
first_nonzero_from_left s t n = grind arith

-- the first nonzero one of two signs isn't zero, if the second sign isn't
pub first_nonzero_from_right : (s t : Sign) → t ≢ Zero → first_nonzero s t ≢ Zero
first_nonzero_from_right s t n = grind arith

-- if the first nonzero one of two signs isn't zero, one of the two isn't
pub nonzero_either : (s t : Sign) → first_nonzero s t ≢ Zero → (s ≢ Zero) ⊎ (t ≢ Zero)
nonzero_either Minus t n = inl minus_nonzero
nonzero_either Zero t n = inr n
nonzero_either Plus t n = inl plus_nonzero

-- of two signs, not both zero, the first nonzero one: the first if it is nonzero, and else the second
pub first_nonzero_cases : (s t : Sign) → first_nonzero s t ≢ Zero → ((s ≢ Zero) × (first_nonzero s t ≡ s))
    ⊎ ((s ≡ Zero) × (t ≢ Zero) × (first_nonzero s t ≡ t))
first_nonzero_cases Minus t n = inl (minus_nonzero, refl)
first_nonzero_cases Zero t n = inr (refl, n, refl)
first_nonzero_cases Plus t n = inl (plus_nonzero, refl)

-- if the first nonzero one of two signs is zero, both are zero
pub first_nonzero_zero : (s t : Sign) → first_nonzero s t ≡ Zero → (s ≡ Zero) × (t ≡ Zero)
first_nonzero_zero Minus t e = absurd (minus_nonzero e)
first_nonzero_zero Zero t e = (refl, e)
first_nonzero_zero Plus t e = absurd (plus_nonzero e)

-- a sign that is one of two, where the two are not opposite, is the first nonzero one
pub first_of_two : (s t z : Sign) → z ≢ Zero → (z ≡ s) ⊎ (z ≡ t) → (s ≢ Zero → s ≡ opposite t → ⊥)
    → z ≡ first_nonzero s t
first_of_two s t z n (inl e) o = e ∙ sym (first_nonzero_left s t (λ q. n (e ∙ q)))
first_of_two Minus Minus z n (inr e) o = e
first_of_two Minus Zero z n (inr e) o = absurd (n e)
first_of_two Minus Plus z n (inr e) o = absurd (o minus_nonzero refl)
first_of_two Zero t z n (inr e) o = e
first_of_two Plus Minus z n (inr e) o = absurd (o plus_nonzero refl)
first_of_two Plus Zero z n (inr e) o = absurd (n e)
first_of_two Plus Plus z n (inr e) o = e

-- the first nonzero one of two signs is one of the two
pub first_nonzero_either : (s t : Sign) → (first_nonzero s t ≡ s) ⊎ (first_nonzero s t ≡ t)
first_nonzero_either Minus t = inl refl
first_nonzero_either Zero t = inr refl
first_nonzero_either Plus t = inl refl

-- a factor is multiplied into the first nonzero one of two signs
pub product-first_nonzero : (s t u : Sign) → product s (first_nonzero t u)
    ≡ first_nonzero (product s t) (product s u)
product-first_nonzero s t u = grind arith
