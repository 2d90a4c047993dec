-- A sign that is negated several times is zero exactly if the sign is.
use Rattle.std.specs.Prelude.{ℕ, zero, suc}
use Rattle.om_signs.specs.declared.sign.Sign.{Sign}
use Rattle.om_signs.proofs.SignLaws.{opposite_nonzero, nonzero_from_opposite}
use Rattle.om_laws.specs.Signs.{IsNonzero, negated_times}

pub negated_times_nonzero : (k : ℕ) (s : Sign) → IsNonzero s → IsNonzero (negated_times k s)
negated_times_nonzero zero s n = n
negated_times_nonzero (suc k) s n = opposite_nonzero (negated_times k s) (negated_times_nonzero k s n)

pub nonzero_from_negated_times : (k : ℕ) (s : Sign) → IsNonzero (negated_times k s) → IsNonzero s
nonzero_from_negated_times zero s n = n
nonzero_from_negated_times (suc k) s n = nonzero_from_negated_times k s (nonzero_from_opposite (negated_times k s) n)
