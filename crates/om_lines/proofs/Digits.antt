-- Numbers of at most six digits, and of any number of digits up to a limit.
--
-- Main results: ten_small, digit_at, number_step, number_grows, unsigned_within, signed_within, signed_minus,
-- signed_minus_none
use Rattle.std.proofs.Common.{◌≡◌, ℕ, zero, suc, ◌+◌, ◌-◌, ◌*◌, ◌<◌, ◌≤◌, List, [], ◌∷◌, true, length, drop, get_or}
use Rattle.std.proofs.Common.{refl, sym, ap, ◌∙◌, take, arith, nat_le, inl, inr}
use Rattle.std.proofs.lemmas.List.{take_rest}
use Rattle.std.specs.List.{list_all}
use Rattle.std.proofs.lemmas.Bool.{leb-true, le-leb, lt-leb, cases_Bool, and_parts}
use Rattle.std.specs.Prelude.{Option, Some, None, IfSome, option_map, ℤ, pos, neg_ℤ, unsigned_abs}
use Rattle.om_lines.specs.Words.{is_digit, number_from, begins_with, is_decimal, up_to, unsigned, negative, signed}

-- ten times ten, k times
abbrev pub ten : ℕ → ℕ
ten zero = 1
ten (suc k) = 10 * ten k

pub ten_small : (k : ℕ) → k < 6 → ten k ≤ 100000
ten_small zero h = omega arith
ten_small (suc zero) h = omega arith
ten_small (suc (suc zero)) h = omega arith
ten_small (suc (suc (suc zero))) h = omega arith
ten_small (suc (suc (suc (suc zero)))) h = omega arith
ten_small (suc (suc (suc (suc (suc zero))))) h = omega arith
ten_small (suc (suc (suc (suc (suc (suc k)))))) h = absurd (omega arith)

-- each byte of a word of digits is from `0` to `9`
pub digit_at : (w : List ℕ) (i : ℕ) → list_all is_digit w ≡ true → i < length w → (48 ≤ get_or w i 0)
    × (get_or w i 0 ≤ 57)
digit_at [] i h l = absurd (omega arith)
digit_at (b ∷ bs) zero h l =
    let a = and_parts (is_digit b) (list_all is_digit bs) h in
    let c = and_parts (nat_le 48 b) (nat_le b 57) a.0 in
    (leb-true 48 b c.0, leb-true b 57 c.1)
digit_at (b ∷ bs) (suc i) h l = digit_at bs i (and_parts (is_digit b) (list_all is_digit bs) h).1 (omega arith)

pub number_step : (w : List ℕ) (i n : ℕ) → i < length w
    → number_from n (drop i w) ≡ number_from (10 * n + (get_or w i 0 - 48)) (drop (i + 1) w)
number_step [] i n l = absurd (omega arith)
number_step (b ∷ bs) zero n l = refl
number_step (b ∷ bs) (suc i) n l = let e : suc i + 1 ≡ suc (i + 1) = omega arith in
    rw e (number_step bs i n (omega arith))

-- a number goes on to no smaller one
pub number_grows : (n : ℕ) (w : List ℕ) → n ≤ number_from n w
number_grows n [] = omega arith
number_grows n (b ∷ bs) = let i = number_grows (10 * n + (b - 48)) bs in omega arith

pub past_limit : (limit n : ℕ) (w : List ℕ) → limit < n → up_to limit (number_from n w) ≡ None
past_limit limit n w h = let i = number_grows n w in rw (lt-leb (number_from n w) limit (omega arith)) refl

-- a number of at most the limit is taken
pub not_past : (limit n : ℕ) → n ≤ limit → up_to limit n ≡ Some n
not_past limit n h = rw (le-leb n limit h) refl

up_to_within : (limit n : ℕ) → IfSome (up_to limit n) (λ k. k ≤ limit)
up_to_within limit n = elim (cases_Bool (nat_le n limit)) [
  | inl e ↦ rw e (leb-true n limit e)
  | inr e ↦ rw e tt
]

-- the number that a word spells, if it spells one, is at most the limit
pub unsigned_within : (limit : ℕ) (w : List ℕ) → IfSome (unsigned limit w) (λ k. k ≤ limit)
unsigned_within limit w = elim (cases_Bool (is_decimal w)) [
  | inl e ↦ rw e (up_to_within limit (number_from 0 w))
  | inr e ↦ rw e tt
]

-- the number with or without a `-` that a word spells, if any, is at most the limit in absolute value
pub signed_within : (limit : ℕ) (w : List ℕ) → IfSome (signed limit w) (λ z. unsigned_abs z ≤ limit)
signed_within limit w = elim (cases_Bool (begins_with 45 w)) [
  | inl e ↦ rw e (below (unsigned limit (drop 1 w)) (unsigned_within limit (drop 1 w)))
  | inr e ↦ rw e (above (unsigned limit w) (unsigned_within limit w))
]
  where
    below : (o : Option ℕ) → IfSome o (λ k. k ≤ limit) → IfSome (negative o) (λ z. unsigned_abs z ≤ limit)
    below None h = tt
    below (Some zero) h = tt
    below (Some (suc n)) h = h

    above : (o : Option ℕ) → IfSome o (λ k. k ≤ limit) → IfSome (option_map pos o) (λ z. unsigned_abs z ≤ limit)
    above None h = tt
    above (Some n) h = h

-- the number that a word with a `-` spells
pub signed_minus : (limit n : ℕ) (w : List ℕ) (z : ℤ) → 1 ≤ length w → get_or w 0 0 ≡ 45
    → Some n ≡ unsigned limit (take (length w - 1) (drop 1 w)) → 0 < n → z ≡ neg_ℤ (pos n) → Some z ≡ signed limit w
signed_minus limit n [] z l minus e some q = absurd (omega arith)
signed_minus limit zero (b ∷ bs) z l minus e some q = absurd (omega arith)
signed_minus limit (suc n) (b ∷ bs) z l minus e some q =
    rw minus (ap Some q ∙ ap negative (e ∙ ap (unsigned limit) (take_rest (b ∷ bs) 1)))

-- a word with a `-` spells no number where its digits spell none, or 0
pub signed_minus_none : (limit : ℕ) (w : List ℕ) (o : Option ℕ) → 1 ≤ length w → get_or w 0 0 ≡ 45
    → o ≡ unsigned limit (take (length w - 1) (drop 1 w)) → negative o ≡ None → None ≡ signed limit w
signed_minus_none limit [] o l minus e none = absurd (omega arith)
signed_minus_none limit (b ∷ bs) o l minus e none =
    rw minus (sym none ∙ ap negative (e ∙ ap (unsigned limit) (take_rest (b ∷ bs) 1)))
