-- Nonzero signs, and signs that are negated several times.
--
-- Reference: Björner, Las Vergnas, Sturmfels, White and Ziegler, Oriented Matroids, chapter 3.
use Rattle.std.specs.Prelude.{ℕ, zero, suc, ◌≢◌}
use Rattle.om_signs.specs.declared.sign.Sign.{Sign}
use Rattle.om_signs.specs.declared.sign.Sign.TheVariants.{Zero}
use Rattle.om_signs.specs.Sign.{opposite}

abbrev pub IsNonzero : Sign → Type 0
IsNonzero s = s ≢ Zero

-- the sign times the k-th power of -1
abbrev pub negated_times : ℕ → Sign → Sign
negated_times zero s = s
negated_times (suc k) s = opposite (negated_times k s)
