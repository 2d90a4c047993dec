-- Numbers as they are printed are words, and are read again.
--
-- Main definitions: IsDecimal, IsNumber, IsSigned
-- Main results: decimal_word, number_word, unsigned_word, signed_word
use Rattle.std.proofs.Math.Bool.{or-true}
use Rattle.std.proofs.Common.{◌≡◌, ℕ, zero, suc, ◌<◌, ◌≤◌, ◌^◌, List, [], ◌∷◌, true, false, ◌⊎◌, ◌+◌, ◌%◌}
use Rattle.std.proofs.Common.{inl, inr, length, get_or, refl, ap, ◌∙◌, arith, nat_eq, length-append}
use Rattle.std.proofs.Math.ListN.{get_or-append}
use Rattle.std.specs.Prelude.{ℤ, pos, negsuc, unsigned_abs, decimal, Some, option_map}
use Rattle.std.specs.Fmt.{signed_decimal}
use Rattle.std.specs.List.{list_all}
use Rattle.std.proofs.Common.{eq-eqb, rules}
use Rattle.std.proofs.lemmas.Bool.{le-leb, and_parts}
use Rattle.std.proofs.lemmas.Fmt.{decimal_is_IsNumeral_wide, decimal_by_steps_wide, length-decimal-le, decimal_digit}
use Rattle.std.proofs.lemmas.Str.Parse.{IsNumeralModel, numerals_by_fold}
use Rattle.om_lines.specs.Lines.{has_any}
use Rattle.om_lines.specs.Words.{is_digit, number_from, begins_with, is_decimal, plain, unsigned, negative, signed}
use Rattle.om_document.proofs.Texts.{is_word_byte}

numerals : IsNumeralModel (λ ds. list_all is_digit ds ≡ true) (number_from 0)
numerals = numerals_by_fold _ (search rules) number_from (search rules)

-- a number as a word of decimal digits
pub record IsDecimal (k : ℕ) : Type 0 where
  pub digits : list_all is_digit (decimal k) ≡ true
  pub bytes : list_all is_word_byte (decimal k) ≡ true
  pub any : has_any (decimal k) ≡ true
  pub word : is_decimal (decimal k) ≡ true
  pub number : number_from 0 (decimal k) ≡ k

-- the same as a plain number
pub record IsNumber (k : ℕ) : Type 0 where
  pub bytes : list_all is_word_byte (decimal k) ≡ true
  pub any : has_any (decimal k) ≡ true
  pub value : plain (decimal k) ≡ Some k

digit_is_word : (b : ℕ) → is_digit b ≡ true → is_word_byte b ≡ true
digit_is_word b h = grind arith

digits_are_word : (w : List ℕ) → list_all is_digit w ≡ true → list_all is_word_byte w ≡ true
digits_are_word [] h = refl
digits_are_word (b ∷ w) h =
    let a = and_parts (is_digit b) (list_all is_digit w) h in
    rw (digit_is_word b a.0) (digits_are_word w a.1)

any_of : (w : List ℕ) → 0 < length w → has_any w ≡ true
any_of [] h = absurd (omega arith)
any_of (b ∷ w) h = refl

first_is_not : (w : List ℕ) → 48 < get_or w 0 0 → begins_with 48 w ≡ false
first_is_not [] h = refl
first_is_not (b ∷ w) h = grind arith

is_decimal_word : (w : List ℕ) → list_all is_digit w ≡ true → 0 < length w → (length w ≡ 1) ⊎ (begins_with 48 w ≡ false)
    → is_decimal w ≡ true
is_decimal_word w d l (inl e) = rw (d, le-leb 1 (length w) l, eq-eqb (length w) 1 e) refl
is_decimal_word w d l (inr n) = rw (d, le-leb 1 (length w) l, n) (or-true (nat_eq (length w) 1))

-- the first digit of a number other than 0
first_digit : (k : ℕ) → 0 < k → k < 10 ^ 64 → 48 < get_or (decimal k) 0 0
first_digit k some small =
    (decimal_by_steps_wide (λ m ds. (0 < length ds) × (0 < m → 48 < get_or ds 0 0))
    (λ m l. (omega arith, λ a. omega arith))
    (λ m ds l h. (
      omega (arith, length-append ds ((48 + m % 10) ∷ [])),
      λ a. omega (arith, get_or-append ds ((48 + m % 10) ∷ []) 0 0 h.0, h.1 (omega arith)),
    )) k small).1 some

no_leading_zero : (k : ℕ) → k < 10 ^ 64 → (length (decimal k) ≡ 1) ⊎ (begins_with 48 (decimal k) ≡ false)
no_leading_zero zero h = inl (ap length (decimal_digit 0 (omega arith)))
no_leading_zero (suc k) h = inr (first_is_not (decimal (suc k)) (first_digit (suc k) (omega arith) h))

-- a number below 10^64 is printed as a word of decimal digits that spells it
pub decimal_word : (k : ℕ) → k < 10 ^ 64 → IsDecimal k
decimal_word k h =
    let numeral = decimal_is_IsNumeral_wide k h in
    let digits = numerals.from (decimal k) numeral.0.1 in
    let any = numeral.0.0 in
    record {
      digits = digits;
      bytes = digits_are_word (decimal k) digits;
      any = any_of (decimal k) any;
      word = is_decimal_word (decimal k) digits any (no_leading_zero k h);
      number = numerals.same (decimal k) numeral.0.1 ∙ numeral.1;
    }

-- a number below 10^6 is printed as a word that spells it as a plain number
pub number_word : (k : ℕ) → k < 10 ^ 6 → IsNumber k
number_word k h =
    let small : k < 2 ^ 64 = omega arith in
    let w = decimal_word k (omega arith) in
    let few = length-decimal-le 6 k (omega arith) h small in
    record {
      bytes = w.bytes;
      any = w.any;
      value = rw (w.word, le-leb (length (decimal k)) 6 few) (ap Some w.number);
    }

-- ---- signed numbers

-- a signed number as a word
pub record IsSigned (limit : ℕ) (z : ℤ) : Type 0 where
  pub bytes : list_all is_word_byte (signed_decimal z) ≡ true
  pub any : has_any (signed_decimal z) ≡ true
  pub value : signed limit (signed_decimal z) ≡ Some z

digit_no_minus : (b : ℕ) → is_digit b ≡ true → nat_eq b 45 ≡ false
digit_no_minus b h = grind arith

digits_no_minus : (w : List ℕ) → list_all is_digit w ≡ true → begins_with 45 w ≡ false
digits_no_minus [] h = refl
digits_no_minus (b ∷ w) h = digit_no_minus b (and_parts (is_digit b) (list_all is_digit w) h).0

-- the decimal word of a number within the limit is read as this number
pub unsigned_word : (limit k : ℕ) → IsDecimal k → k ≤ limit → unsigned limit (decimal k) ≡ Some k
unsigned_word limit k d h = rw (d.word, d.number, le-leb k limit h) refl

-- a number of absolute value up to a limit below 10^64 is printed as a word that is read as this number
pub signed_word : (limit : ℕ) (z : ℤ) → limit < 10 ^ 64 → unsigned_abs z ≤ limit → IsSigned limit z
signed_word limit (pos n) l h =
    let d = decimal_word n (omega arith) in
    record {
      bytes = d.bytes;
      any = d.any;
      value = rw (digits_no_minus (decimal n) d.digits) (ap (option_map pos) (unsigned_word limit n d h));
    }
signed_word limit (negsuc n) l h =
    let d = decimal_word (suc n) (omega arith) in
    record {
      bytes = d.bytes;
      any = refl;
      value = ap negative (unsigned_word limit (suc n) d h);
    }
