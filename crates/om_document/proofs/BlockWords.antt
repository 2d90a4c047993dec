-- The words of wirings as the code has them, and the text of a block.
--
-- Main definitions: IsBlockWord
-- Main results: plain_within, position_within, block_word
use Rattle.std.proofs.Common.{◌≡◌, ℕ, suc, ◌+◌, ◌<◌, ◌≤◌, ◌^◌, List, [], ◌∷◌, ◌++◌, true, false, not, ◌&&◌, ◌||◌}
use Rattle.std.proofs.Common.{length, drop, nat_eq, nat_le, refl, ap, ◌∙◌, arith, inl, inr}
use Rattle.std.specs.Prelude.{Some, IfSome, decimal}
use Rattle.std.specs.List.{list_all, position_or_len, before_first, after_first}
use Rattle.std.proofs.lemmas.Bool.{le-leb, cases_Bool, and_parts}
use Rattle.std.proofs.lemmas.Fmt.{length-decimal-le}
use Rattle.std.proofs.lemmas.List.Folds.{list_all-append}
use Rattle.std.proofs.Math.Seq.{take-append_seam}
use Rattle.om_signs.specs.declared.block.Block.{Block}
use Rattle.om_signs.specs.declared.limits.TheConstants.{MAX_PLAIN_DIGITS, MAX_POSITION, MAX_POSITION_DIGITS}
use Rattle.om_lines.specs.Lines.{has_any}
use Rattle.om_lines.specs.Words.{is_digit, number_from, is_decimal, begins_with, is_plain, plain}
use Rattle.om_document.specs.Blocks.{position_of, is_dash, with_positions, block_of}
use Rattle.om_document.specs.Form.{IsShort}
use Rattle.om_document.specs.Print.{block_text}
use Rattle.om_lines.proofs.Digits.{digit_at}
use Rattle.om_document.proofs.Numerals.{decimal_word, number_word}
use Rattle.om_document.proofs.Texts.{is_word_byte}

-- a number of at most three digits
three_digits : (w : List ℕ) → list_all is_digit w ≡ true → length w ≤ MAX_POSITION_DIGITS
    → number_from 0 w ≤ MAX_POSITION
three_digits [] h l = omega arith
three_digits (x ∷ []) h l =
    let a = digit_at (x ∷ []) 0 h (omega arith) in
    omega arith
three_digits (x ∷ y ∷ []) h l =
    let a = digit_at (x ∷ y ∷ []) 0 h (omega arith) in
    let b = digit_at (x ∷ y ∷ []) 1 h (omega arith) in
    omega arith
three_digits (x ∷ y ∷ z ∷ []) h l =
    let a = digit_at (x ∷ y ∷ z ∷ []) 0 h (omega arith) in
    let b = digit_at (x ∷ y ∷ z ∷ []) 1 h (omega arith) in
    let c = digit_at (x ∷ y ∷ z ∷ []) 2 h (omega arith) in
    omega arith
three_digits (x ∷ y ∷ z ∷ u ∷ w) h l = absurd (omega arith)

-- a plain word of at most three digits is a position
pub plain_within : (w : List ℕ) → length w ≤ MAX_POSITION_DIGITS → IfSome (plain w) (λ k. k ≤ MAX_POSITION)
plain_within w l = elim (cases_Bool (is_plain w)) [
  | inl e ↦
      let p = and_parts (is_decimal w) (nat_le (length w) MAX_PLAIN_DIGITS) e in
      let q = and_parts (list_all is_digit w && nat_le 1 (length w))
      (nat_eq (length w) 1 || not (begins_with 48 w)) p.0 in
      let d = and_parts (list_all is_digit w) (nat_le 1 (length w)) q.0 in
      rw e (three_digits w d.0 l)
  | inr n ↦ rw n tt
]

-- the number that a plain word of at most three digits spells is a position
pub plain_small : (w : List ℕ) (k : ℕ) → length w ≤ MAX_POSITION_DIGITS → Some k ≡ plain w → k ≤ MAX_POSITION
plain_small w k l h = let i : IfSome (plain w) (λ k. k ≤ MAX_POSITION) = plain_within w l in let j = rw (← h) at i in j

-- the position that a word spells is at most MAX_POSITION
pub position_within : (w : List ℕ) → IfSome (position_of w) (λ k. k ≤ MAX_POSITION)
position_within w = elim (cases_Bool (nat_le (length w) MAX_POSITION_DIGITS)) [
  | inl e ↦ rw e (plain_within w (at (length w) e))
  | inr n ↦ rw n tt
]
  where
    at : (k : ℕ) → nat_le k MAX_POSITION_DIGITS ≡ true → k ≤ MAX_POSITION_DIGITS
    at k h = grind arith

-- ---- blocks as they are printed

digit_no_dash : (b : ℕ) → is_digit b ≡ true → is_dash b ≡ false
digit_no_dash b h = grind arith

dash_at : (xs ys : List ℕ) → list_all is_digit xs ≡ true → position_or_len is_dash (xs ++ 45 ∷ ys) ≡ length xs
dash_at [] ys h = refl
dash_at (x ∷ xs) ys h =
    let a = and_parts (is_digit x) (list_all is_digit xs) h in
    rw (digit_no_dash x a.0) (let i = dash_at xs ys a.1 in omega arith)

before_dash : (xs ys : List ℕ) → list_all is_digit xs ≡ true → before_first is_dash (xs ++ 45 ∷ ys) ≡ xs
before_dash xs ys h = rw (dash_at xs ys h) (take-append_seam xs (45 ∷ ys))

after_dash : (xs ys : List ℕ) → list_all is_digit xs ≡ true → after_first is_dash (xs ++ 45 ∷ ys) ≡ ys
after_dash xs ys h = rw (dash_at xs ys h) (seam xs)
  where
    seam : (xs : List ℕ) → drop (length xs + 1) (xs ++ 45 ∷ ys) ≡ ys
    seam [] = refl
    seam (x ∷ xs) = let e : length (x ∷ xs) + 1 ≡ suc (length xs + 1) = omega arith in rw e (seam xs)

-- a position as a word
record IsPositionWord (k : ℕ) : Type 0 where
  digits : list_all is_digit (decimal k) ≡ true
  bytes : list_all is_word_byte (decimal k) ≡ true
  any : has_any (decimal k) ≡ true
  value : position_of (decimal k) ≡ Some k

position_word : (k : ℕ) → k ≤ MAX_POSITION → IsPositionWord k
position_word k h =
    let small : k < 2 ^ 64 = omega arith in
    let short : k < 10 ^ MAX_POSITION_DIGITS = omega arith in
    let d = decimal_word k (omega arith) in
    let n = number_word k (omega arith) in
    let few = length-decimal-le MAX_POSITION_DIGITS k (omega arith) short small in
    record {
      digits = d.digits;
      bytes = d.bytes;
      any = d.any;
      value = rw (le-leb (length (decimal k)) MAX_POSITION_DIGITS few) n.value;
    }

any_append : (xs ys : List ℕ) → has_any xs ≡ true → has_any (xs ++ ys) ≡ true
any_append [] ys h = cc
any_append (x ∷ xs) ys h = refl

-- a block as a word
pub record IsBlockWord (b : Block) : Type 0 where
  pub bytes : list_all is_word_byte (block_text b) ≡ true
  pub any : has_any (block_text b) ≡ true
  pub value : block_of (block_text b) ≡ Some b

pub block_word : (b : Block) → IsShort b → IsBlockWord b
block_word b s =
    let i = position_word b.first s.first in
    let j = position_word b.last s.last in
    record {
      bytes = list_all-append is_word_byte (decimal b.first) (45 ∷ decimal b.last) ∙ rw (i.bytes, j.bytes) refl;
      any = any_append (decimal b.first) (45 ∷ decimal b.last) i.any;
      value = ap (λ w. with_positions (position_of w) (position_of (after_first is_dash (block_text b))))
          (before_dash (decimal b.first) (decimal b.last) i.digits)
          ∙ ap (λ w. with_positions (position_of (decimal b.first)) (position_of w))
          (after_dash (decimal b.first) (decimal b.last) i.digits)
          ∙ rw (i.value, j.value) refl;
    }
