-- The support of a list of signs, as a mask.
--
-- Main results: a list is nonzero where the mask of its support is (nonzero_from_support), and zero where that is 0
-- (zero_from_support).
use Rattle.std.proofs.Common.{ℕ, ◌≡◌, ◌≢◌, ◌<◌, ◌^◌, List, length, ap, ◌∙◌, inl, inr, arith}
use Rattle.std.specs.Int.{bit_at}
use Rattle.std.proofs.lemmas.Bool.{cases_lt}
use Rattle.std.proofs.lemmas.List.{get_or_past}
use Rattle.std.proofs.lemmas.Nat.Bits.{bit_at-zero, bit_at_above}
use Rattle.om_signs.specs.declared.sign.Sign.{Sign}
use Rattle.om_signs.specs.declared.sign.Sign.TheVariants.{Zero}
use Rattle.om_signs.specs.SignVec.{IsInSupport, IsMaskOf}
use Rattle.om_signs.proofs.Bits.{some_bit}
use Rattle.om_denotation.specs.Circuits.{HasNonzero}

-- a list has a nonzero sign if the mask of its support, which is below 2^32, isn't 0
pub nonzero_from_support : (V : List Sign) (mask : ℕ) → IsMaskOf (length V) (IsInSupport V) mask → mask < 2 ^ 32
    → mask ≢ 0 → HasNonzero V
nonzero_from_support V mask m small n = by (some_bit mask n small)
  where
    by : (i : ℕ) × (bit_at mask i ≡ 1) → HasNonzero V
    by (i, b) = elim (cases_lt i (length V)) [
      | inl lt ↦ (i, (m.holds i lt).0 b)
      | inr ge ↦ let z = bit_at_above mask (length V) i m.within ge in absurd (omega (arith, b, z))
    ]

-- a list has no nonzero sign if the mask of its support is 0
pub zero_from_support : (V : List Sign) (mask : ℕ) → IsMaskOf (length V) (IsInSupport V) mask → mask ≡ 0 → HasNonzero V
    → ⊥
zero_from_support V mask m z (i, n) = elim (cases_lt i (length V)) [
  | inl lt ↦ let b : bit_at mask i ≡ 0 = ap (λ k. bit_at k i) z ∙ bit_at-zero i in let h = (m.holds i lt).1 n in
      omega (arith, b, h)
  | inr ge ↦ n (get_or_past V i Zero ge)
]
