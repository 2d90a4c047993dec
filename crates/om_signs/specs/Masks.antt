-- What two masks stand for: the places with a plus, and the places with a minus.
--
-- Main definitions: sign_of, signs_of, plus_mask, minus_mask, AreSignMasks
-- Main results: plus_mask-signs_of, minus_mask-signs_of
use Rattle.std.specs.Prelude.{ℕ, ◌≡◌, ◌+◌, ◌*◌, ◌/◌, ◌<◌, ◌≤◌, ◌^◌, List, [], ◌∷◌, length, bit_and, map, refl}
use Rattle.std.specs.Int.{bit_at}
use Rattle.std.specs.List.{range_with_len}
use Rattle.std.proofs.Common.{zero, suc, sym, ◌∙◌, ap, arith, get_or, min, inl, inr}
use Rattle.std.proofs.lemmas.Bool.{cases_lt}
use Rattle.std.proofs.lemmas.Nat.Bits.{bit_at-zero, bit_at_lowest, bit_at-suc, bit_at-lt, bit_at_and, bit_at_above}
use Rattle.std.proofs.lemmas.Nat.Bits.{same_from_bits}
use Rattle.std.proofs.lemmas.List.{get_or_past}
use Rattle.std.proofs.lemmas.List.FromFn.{length-map-range_with_len, get_or-map-range_with_len}
use Rattle.om_signs.specs.declared.sign.Sign.{Sign}
use Rattle.om_signs.specs.declared.sign.Sign.TheVariants.{Minus, Zero, Plus}
use Rattle.om_signs.specs.Sign.{is_plus, is_minus}
use Rattle.om_signs.specs.declared.limits.TheConstants.{MAX_PLACES}

-- the sign that two bits stand for
abbrev pub sign_of : ℕ → ℕ → Sign
sign_of zero zero = Zero
sign_of zero (suc m) = Minus
sign_of (suc p) m = Plus

-- the sign that two masks stand for at a place, counted from 0
abbrev pub sign_at : ℕ → ℕ → ℕ → Sign
sign_at plus minus i = sign_of (bit_at plus i) (bit_at minus i)

-- the signs that two masks stand for
abbrev pub signs_of : ℕ → ℕ → ℕ → List Sign
signs_of plus minus n = map (sign_at plus minus) (range_with_len 0 n)

-- the mask of the places at which a test of the sign is 1
abbrev pub mask_by : (Sign → ℕ) → List Sign → ℕ
mask_by f [] = 0
mask_by f (x ∷ xs) = f x + 2 * mask_by f xs

-- the mask of the places with a plus
abbrev pub plus_mask : List Sign → ℕ
plus_mask = mask_by is_plus

-- the mask of the places with a minus
abbrev pub minus_mask : List Sign → ℕ
minus_mask = mask_by is_minus

-- a length within the limit, and masks without a common place and without a place beyond the length
pub record AreSignMasks (plus minus n : ℕ) : Type 0 where
  pub low : 1 ≤ n
  pub high : n ≤ MAX_PLACES
  pub plus_within : plus < 2 ^ n
  pub minus_within : minus < 2 ^ n
  pub apart : bit_and plus minus ≡ 0

pub bit_at-mask_by : (f : Sign → ℕ) → ((s : Sign) → f s < 2) → f Zero ≡ 0 → (xs : List Sign) (i : ℕ)
    → bit_at (mask_by f xs) i ≡ f (get_or xs i Zero)
bit_at-mask_by f small none [] i = bit_at-zero i ∙ sym none
bit_at-mask_by f small none (x ∷ xs) zero =
    let b : f x < 2 = small x in bit_at_lowest (f x + 2 * mask_by f xs) ∙ omega arith
bit_at-mask_by f small none (x ∷ xs) (suc i) =
    let b : f x < 2 = small x in
    let half : (f x + 2 * mask_by f xs) / 2 ≡ mask_by f xs = omega arith in
    bit_at-suc (f x + 2 * mask_by f xs) i ∙ ap (λ k. bit_at k i) half ∙ bit_at-mask_by f small none xs i

pub is_plus-lt : (s : Sign) → is_plus s < 2
is_plus-lt Minus = omega arith
is_plus-lt Zero = omega arith
is_plus-lt Plus = omega arith

pub is_minus-lt : (s : Sign) → is_minus s < 2
is_minus-lt Minus = omega arith
is_minus-lt Zero = omega arith
is_minus-lt Plus = omega arith

pub is_plus-sign_of : (p m : ℕ) → p < 2 → is_plus (sign_of p m) ≡ p
is_plus-sign_of zero zero h = refl
is_plus-sign_of zero (suc m) h = refl
is_plus-sign_of (suc p) m h = omega arith

pub is_minus-sign_of : (p m : ℕ) → m < 2 → min p m ≡ 0 → is_minus (sign_of p m) ≡ m
is_minus-sign_of zero zero h a = refl
is_minus-sign_of zero (suc m) h a = omega arith
is_minus-sign_of (suc p) m h a = omega arith

pub get_or-signs_of : (p m n i : ℕ) → i < n → get_or (signs_of p m n) i Zero ≡ sign_at p m i
get_or-signs_of p m n i h = get_or-map-range_with_len (sign_at p m) 0 n i i Zero h (omega arith)

pub length-signs_of : (p m n : ℕ) → length (signs_of p m n) ≡ n
length-signs_of p m n = length-map-range_with_len (sign_at p m) 0 n

pub bit_at-apart : (p m i : ℕ) → bit_and p m ≡ 0 → min (bit_at p i) (bit_at m i) ≡ 0
bit_at-apart p m i h = sym (bit_at_and p m i) ∙ ap (λ k. bit_at k i) h ∙ bit_at-zero i

pub plus_mask-signs_of : (p m n : ℕ) → AreSignMasks p m n → plus_mask (signs_of p m n) ≡ p
plus_mask-signs_of p m n h = same_from_bits _ _ (λ i. bit_at-mask_by is_plus is_plus-lt refl _ i ∙ each i)
  where
    each : (i : ℕ) → is_plus (get_or (signs_of p m n) i Zero) ≡ bit_at p i
    each i = elim (cases_lt i n) [
      | inl lt ↦ rw (get_or-signs_of p m n i lt) (is_plus-sign_of (bit_at p i) (bit_at m i) (bit_at-lt p i))
      | inr ge ↦ let e : length (signs_of p m n) ≤ i = rw (length-signs_of p m n) ge in
          rw (get_or_past (signs_of p m n) i Zero e) (sym (bit_at_above p n i h.plus_within ge))
    ]

pub minus_mask-signs_of : (p m n : ℕ) → AreSignMasks p m n → minus_mask (signs_of p m n) ≡ m
minus_mask-signs_of p m n h = same_from_bits _ _ (λ i. bit_at-mask_by is_minus is_minus-lt refl _ i ∙ each i)
  where
    each : (i : ℕ) → is_minus (get_or (signs_of p m n) i Zero) ≡ bit_at m i
    each i = elim (cases_lt i n) [
      | inl lt ↦
          rw (get_or-signs_of p m n i lt)
          (is_minus-sign_of (bit_at p i) (bit_at m i) (bit_at-lt m i) (bit_at-apart p m i h.apart))
      | inr ge ↦ let e : length (signs_of p m n) ≤ i = rw (length-signs_of p m n) ge in
          rw (get_or_past (signs_of p m n) i Zero e) (sym (bit_at_above m n i h.minus_within ge))
    ]
