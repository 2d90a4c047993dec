-- The three signs are different, and which cases a proof may tell apart.
--
-- Main results: a sign is zero or it isn't (zero_or_nonzero); two signs are equal or they aren't (same_or_different).
use Rattle.std.proofs.Common.{refl, arith, inl, inr, ◌≡◌, ◌≢◌, ◌⊎◌}
use Rattle.om_signs.specs.declared.sign.Sign.{Sign}
use Rattle.om_signs.specs.declared.sign.Sign.TheVariants.{Minus, Zero, Plus}

-- plus isn't zero, for laws that ask for a nonzero sign
pub plus_nonzero : Plus ≢ Zero
plus_nonzero e = cc

-- minus isn't zero, for laws that ask for a nonzero sign
pub minus_nonzero : Minus ≢ Zero
minus_nonzero e = cc

-- to refute an equation with zero on the left and plus on the right
pub zero_not_plus : Zero ≢ Plus
zero_not_plus e = cc

-- to refute an equation with zero on the left and minus on the right
pub zero_not_minus : Zero ≢ Minus
zero_not_minus e = cc

-- to refute an equation with plus on the left and minus on the right
pub plus_not_minus : Plus ≢ Minus
plus_not_minus e = cc

-- to refute an equation with minus on the left and plus on the right
pub minus_not_plus : Minus ≢ Plus
minus_not_plus e = cc

-- to tell two cases apart: a sign is zero, or it isn't
pub zero_or_nonzero : (s : Sign) → (s ≡ Zero) ⊎ (s ≢ Zero)
zero_or_nonzero Minus = inr minus_nonzero
zero_or_nonzero Zero = inl refl
zero_or_nonzero Plus = inr plus_nonzero

-- a sign that is neither plus nor minus is zero
pub zero_if_neither : (s : Sign) → s ≢ Plus → s ≢ Minus → s ≡ Zero
zero_if_neither Minus p m = absurd (m refl)
zero_if_neither Zero p m = refl
zero_if_neither Plus p m = absurd (p refl)

-- no sign is both zero and nonzero
pub zero_not_nonzero : (s : Sign) → s ≡ Zero → s ≢ Zero → ⊥
zero_not_nonzero s e n = n e

-- to tell two cases apart: two signs are equal, or they aren't
pub same_or_different : (s t : Sign) → (s ≡ t) ⊎ (s ≢ t)
same_or_different Minus Minus = inl refl
same_or_different Minus Zero = inr (λ e. cc)
same_or_different Minus Plus = inr (λ e. cc)
same_or_different Zero Minus = inr (λ e. cc)
same_or_different Zero Zero = inl refl
same_or_different Zero Plus = inr (λ e. cc)
same_or_different Plus Minus = inr (λ e. cc)
same_or_different Plus Zero = inr (λ e. cc)
same_or_different Plus Plus = inl refl

-- to tell two cases apart: a sign is minus, or it isn't
pub minus_or_not : (s : Sign) → (s ≡ Minus) ⊎ (s ≢ Minus)
minus_or_not s = same_or_different s Minus

-- no sign is both zero and minus
pub not_zero_and_minus : (s : Sign) → s ≡ Zero → s ≡ Minus → ⊥
not_zero_and_minus s a b = grind arith

-- no sign is both plus and minus
pub not_plus_and_minus : (s : Sign) → s ≡ Plus → s ≡ Minus → ⊥
not_plus_and_minus s a b = grind arith

-- a nonzero sign is plus or minus
pub plus_or_minus : (s : Sign) → s ≢ Zero → (s ≡ Plus) ⊎ (s ≡ Minus)
plus_or_minus Minus n = inr refl
plus_or_minus Zero n = absurd (n refl)
plus_or_minus Plus n = inl refl
