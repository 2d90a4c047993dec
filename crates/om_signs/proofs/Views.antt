-- What a pair of masks shows: a list of signs, place by place.
--
-- Main definitions: Shows, Stands, Back
-- Main results: shows and stands, from masks to signs and back; length_is; masks_back, the masks of the signs; fits_32;
-- from_plus_bit and from_minus_bit; and_regroup
use Rattle.std.proofs.Common.{ℕ, ◌≡◌, ◌<◌, ◌≤◌, ◌^◌, min, refl, sym, ◌∙◌, ap, arith, bit_and, inl, inr, List, length}
use Rattle.std.proofs.Common.{Bool, true, false}
use Rattle.std.specs.Int.{bit_at}
use Rattle.std.proofs.lemmas.Bool.{cases_lt}
use Rattle.std.proofs.lemmas.Nat.Bits.{bit_at-zero, bit_at-lt, bit_at_and, bit_at_above, same_from_bits}
use Rattle.std.proofs.lemmas.List.{get_or_past}
use Rattle.om_signs.specs.Masks.{plus_mask, minus_mask, plus_mask-signs_of, minus_mask-signs_of}
use Rattle.std.proofs.Common.{◌&&◌}
use Rattle.std.proofs.Math.Pow.{pow_mono}
use Rattle.std.proofs.lemmas.List.FromFn.{fill_by_all}
use Rattle.om_signs.specs.declared.sign.Sign.{Sign}
use Rattle.om_signs.specs.declared.sign.Sign.TheVariants.{Minus, Zero, Plus}
use Rattle.om_signs.specs.Sign.{is_plus, is_minus}
use Rattle.om_signs.specs.declared.limits.TheConstants.{MAX_PLACES}
use Rattle.om_signs.specs.SignVec.{at}
use Rattle.om_signs.specs.Masks.{sign_of, sign_at, signs_of, AreSignMasks, get_or-signs_of, length-signs_of}
use Rattle.om_signs.specs.Masks.{is_plus-sign_of}
use Rattle.om_signs.specs.Masks.{is_minus-sign_of, bit_at-apart}
use Rattle.om_signs.proofs.Bits.{lt_from_bits}

-- the masks have these signs, place by place, and nothing above
abbrev pub Shows : ℕ → ℕ → List Sign → Type 0
Shows p m xs = (i : ℕ) → (bit_at p i ≡ is_plus (at xs i)) × (bit_at m i ≡ is_minus (at xs i))

pub record Stands (p m n : ℕ) (xs : List Sign) : Type 0 where
  pub sound : AreSignMasks p m n
  pub view : signs_of p m n ≡ xs

pub length_is : (p m n : ℕ) (xs : List Sign) → signs_of p m n ≡ xs → length xs ≡ n
length_is p m n xs e = sym (ap length e) ∙ length-signs_of p m n

pub shows : (p m n : ℕ) (xs : List Sign) → AreSignMasks p m n → signs_of p m n ≡ xs → Shows p m xs
shows p m n xs h e i = rw (← e) (elim (cases_lt i n) [
  | inl lt ↦ rw (get_or-signs_of p m n i lt) (
    sym (is_plus-sign_of (bit_at p i) (bit_at m i) (bit_at-lt p i)),
    sym (is_minus-sign_of (bit_at p i) (bit_at m i) (bit_at-lt m i) (bit_at-apart p m i h.apart)),
  )
  | inr ge ↦
      let past : length (signs_of p m n) ≤ i = rw (length-signs_of p m n) ge in
      rw (get_or_past (signs_of p m n) i Zero past)
      (bit_at_above p n i h.plus_within ge, bit_at_above m n i h.minus_within ge)
])

pub never_both : (s : Sign) → min (is_plus s) (is_minus s) ≡ 0
never_both Minus = refl
never_both Zero = refl
never_both Plus = refl

-- the two bits of a sign stand for that sign
pub sign_of_is : (s : Sign) → sign_of (is_plus s) (is_minus s) ≡ s
sign_of_is Minus = refl
sign_of_is Zero = refl
sign_of_is Plus = refl

pub stands : (p m n : ℕ) (xs : List Sign) → 1 ≤ n → n ≤ MAX_PLACES → length xs ≡ n → Shows p m xs → Stands p m n xs
stands p m n xs low high len each = record {
  sound = record {
    low = low;
    high = high;
    plus_within = lt_from_bits p n (λ i ge. (each i).0 ∙ ap is_plus (past i ge));
    minus_within = lt_from_bits m n (λ i ge. (each i).1 ∙ ap is_minus (past i ge));
    apart = same_from_bits (bit_and p m) 0 (λ i. bit_at_and p m i ∙ rw ((each i).0, (each i).1) (never_both (at xs i))
        ∙ sym (bit_at-zero i));
  };
  view = sym
      (fill_by_all (sign_at p m) xs n Zero len (λ i lt. rw ((each i).0, (each i).1) (sym (sign_of_is (at xs i)))));
}
  where
    past : (i : ℕ) → n ≤ i → at xs i ≡ Zero
    past i ge = get_or_past xs i Zero (rw len ge)

-- `p < 2 ^ 32`, of a mask within the most places
pub fits_32 : (p n : ℕ) → n ≤ MAX_PLACES → p < 2 ^ n → p < 2 ^ 32
fits_32 p n le lt = let up : 2 ^ n ≤ 2 ^ MAX_PLACES = pow_mono le in omega arith

pub from_plus_bit : (s : Sign) → is_plus s ≡ 1 → s ≡ Plus
from_plus_bit Minus e = cc
from_plus_bit Zero e = cc
from_plus_bit Plus e = refl

pub from_minus_bit : (s : Sign) → is_minus s ≡ 1 → s ≡ Minus
from_minus_bit Minus e = refl
from_minus_bit Zero e = cc
from_minus_bit Plus e = cc

pub record Back (p m n : ℕ) (xs : List Sign) : Type 0 where
  pub plus : plus_mask xs ≡ p
  pub minus : minus_mask xs ≡ m
  pub len : length xs ≡ n

pub masks_back : (p m n : ℕ) (xs : List Sign) → AreSignMasks p m n → signs_of p m n ≡ xs → Back p m n xs
masks_back p m n xs h v =
    rw (← v) (record {
      plus = plus_mask-signs_of p m n h;
      minus = minus_mask-signs_of p m n h;
      len =
          length-signs_of p m n;
    })

pub and_regroup : (r s a b d : Bool) → s ≡ (a && b) → r ≡ (s && d) → r ≡ (a && (b && d))
and_regroup r s a b d e f = f ∙ rw e (cases a)
  where
    cases : (a : Bool) → ((a && b) && d) ≡ (a && (b && d))
    cases true = refl
    cases false = refl
