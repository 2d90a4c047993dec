use Rattle.std.specs.Prelude.{ℕ, Bool, true, false}
use Rattle.om_signs.specs.declared.sign.Sign.{Sign}
use Rattle.om_signs.specs.declared.sign.Sign.TheVariants.{Minus, Zero, Plus}

-- minus and plus are exchanged
abbrev pub opposite : Sign → Sign
opposite Minus = Plus
opposite Zero = Zero
opposite Plus = Minus

-- the sign of the product of two numbers with these signs
abbrev pub product : Sign → Sign → Sign
product Minus t = opposite t
product Zero t = Zero
product Plus t = t

-- the first sign, or the second one if the first is zero
abbrev pub first_nonzero : Sign → Sign → Sign
first_nonzero Minus t = Minus
first_nonzero Zero t = t
first_nonzero Plus t = Plus

-- 1 at plus, and 0 at the other signs
abbrev pub is_plus : Sign → ℕ
is_plus Minus = 0
is_plus Zero = 0
is_plus Plus = 1

-- 1 at minus, and 0 at the other signs
abbrev pub is_minus : Sign → ℕ
is_minus Minus = 1
is_minus Zero = 0
is_minus Plus = 0

-- whether two signs are equal
abbrev pub equal_signs : Sign → Sign → Bool
equal_signs Minus Minus = true
equal_signs Zero Zero = true
equal_signs Plus Plus = true
equal_signs _ _ = false
