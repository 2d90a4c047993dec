-- Three balanced signs: equal signs, zeros, opposite signs, and other orders.
--
-- Main results: balanced_same, balanced_zeros; a zero beside two opposite signs (balanced_first_two, balanced_ends,
-- balanced_last_two); two of the signs exchanged and all turned (balanced_first_exchanged, balanced_last_exchanged);
-- balanced_rotated.
use Rattle.std.specs.Prelude.{◌≡◌}
use Rattle.std.proofs.Common.{sym, subst, arith}
use Rattle.om_signs.specs.declared.sign.Sign.{Sign}
use Rattle.om_signs.specs.declared.sign.Sign.TheVariants.{Minus, Zero, Plus}
use Rattle.om_signs.specs.Sign.{opposite}
use Rattle.om_laws.specs.ThreeTerm.{AreBalanced}

-- signs that equal balanced ones
pub balanced_same : (x y z x' y' z' : Sign) → x' ≡ x → y' ≡ y → z' ≡ z → AreBalanced x y z → AreBalanced x' y' z'
balanced_same x y z x' y' z' p q r h =
    subst (λ s. AreBalanced s y' z') (sym p)
    (subst (λ s. AreBalanced x s z') (sym q) (subst (λ s. AreBalanced x y s) (sym r) h))

-- three signs that are all zero are balanced
pub balanced_zeros : (x y z : Sign) → x ≡ Zero → y ≡ Zero → z ≡ Zero → AreBalanced x y z
balanced_zeros x y z p q r = balanced_same Zero Zero Zero x y z p q r tt

-- the first of three signs, where the others are zero
pub balanced_alone : (s : Sign) → AreBalanced s Zero Zero → s ≡ Zero
balanced_alone s h = grind arith

-- a zero and then two opposite signs are balanced
pub balanced_last_two : (s : Sign) → AreBalanced Zero (opposite s) s
balanced_last_two Minus = tt
balanced_last_two Zero = tt
balanced_last_two Plus = tt

-- two opposite signs with a zero between them are balanced
pub balanced_ends : (s : Sign) → AreBalanced s Zero (opposite s)
balanced_ends Minus = tt
balanced_ends Zero = tt
balanced_ends Plus = tt

-- two opposite signs and then a zero are balanced
pub balanced_first_two : (s : Sign) → AreBalanced s (opposite s) Zero
balanced_first_two Minus = tt
balanced_first_two Zero = tt
balanced_first_two Plus = tt

-- balanced signs stay balanced if the first is put last
pub balanced_rotated : (x y z : Sign) → AreBalanced x y z → AreBalanced y z x
balanced_rotated x y z h = grind arith

-- if three signs are balanced, so are their opposites with the first two exchanged
pub balanced_first_exchanged : (x y z : Sign) → AreBalanced x y z → AreBalanced (opposite y) (opposite x) (opposite z)
balanced_first_exchanged x y z h = grind arith

pub balanced_last_exchanged : (x y z : Sign) → AreBalanced x y z → AreBalanced (opposite x) (opposite z) (opposite y)
balanced_last_exchanged x y z h = grind arith
