-- Names as words, the numbered names, and the line of names.
--
-- Main results: names_are_words, numbered_are_names, printed_are_names, names_line
use Rattle.std.proofs.Common.{◌≡◌, ◌≢◌, ℕ, zero, suc, ◌+◌, ◌<◌, ◌≤◌, ◌^◌, List, [], ◌∷◌, true, false, ◌&&◌, inl, inr}
use Rattle.std.proofs.Common.{length, map, nat_eq, nat_le, refl, sym, ap, ◌∙◌, arith, eq-eqb}
use Rattle.std.specs.Prelude.{codes, decimal, bytes_eq}
use Rattle.std.specs.List.{list_all, list_any, range_with_len}
use Rattle.std.proofs.lemmas.Bool.{le-leb, cases_Bool, and_parts}
use Rattle.std.proofs.lemmas.Fmt.{length-decimal-le}
use Rattle.std.proofs.lemmas.List.FromFn.{length-map-range_with_len}
use Rattle.std.proofs.lemmas.Slice.Eq.{bytes_eq-Decides}
use Rattle.om_signs.specs.declared.limits.TheConstants.{MAX_NAME}
use Rattle.om_lines.specs.Words.{is_digit, number_from}
use Rattle.om_document.specs.Names.{is_name_byte, is_name, are_different, are_names}
use Rattle.om_document.specs.Form.{AreNamesOn}
use Rattle.om_document.specs.PrintTwo.{numbered_names, printed_names}
use Rattle.om_document.proofs.Numerals.{decimal_word}
use Rattle.om_document.proofs.Texts.{is_word_byte, is_word}

-- ---- names are words

name_is_word : (b : ℕ) → is_name_byte b ≡ true → is_word_byte b ≡ true
name_is_word b h = grind arith

bytes_are_word : (w : List ℕ) → list_all is_name_byte w ≡ true → list_all is_word_byte w ≡ true
bytes_are_word [] h = refl
bytes_are_word (b ∷ w) h =
    let a = and_parts (is_name_byte b) (list_all is_name_byte w) h in
    rw (name_is_word b a.0) (bytes_are_word w a.1)

pub name_word : (w : List ℕ) → is_name w ≡ true → is_word w ≡ true
name_word [] h = absurd (let e : false ≡ true = h in cc)
name_word (b ∷ w) h =
    let a = and_parts (nat_le 1 (length (b ∷ w)) && nat_le (length (b ∷ w)) MAX_NAME)
    (list_all is_name_byte (b ∷ w)) h in
    rw (bytes_are_word (b ∷ w) a.1) refl

pub names_are_words : (ws : List (List ℕ)) → list_all is_name ws ≡ true → list_all is_word ws ≡ true
names_are_words [] h = refl
names_are_words (w ∷ ws) h =
    let a = and_parts (is_name w) (list_all is_name ws) h in
    rw (name_word w a.0) (names_are_words ws a.1)

-- ---- numbered names

-- the name with a number
abbrev pub numbered : ℕ → List ℕ
numbered k = 101 ∷ decimal k

digit_is_name : (b : ℕ) → is_digit b ≡ true → is_name_byte b ≡ true
digit_is_name b h = grind arith

digits_are_name : (w : List ℕ) → list_all is_digit w ≡ true → list_all is_name_byte w ≡ true
digits_are_name [] h = refl
digits_are_name (b ∷ w) h =
    let a = and_parts (is_digit b) (list_all is_digit w) h in
    rw (digit_is_name b a.0) (digits_are_name w a.1)

name_of_word : (w : List ℕ) → list_all is_name_byte w ≡ true → 1 ≤ length w → length w ≤ MAX_NAME → is_name w ≡ true
name_of_word w a l m = rw (le-leb 1 (length w) l, le-leb (length w) MAX_NAME m, a) refl

numbered_name : (k : ℕ) → k < 10 ^ 6 → is_name (numbered k) ≡ true
numbered_name k h =
    let d = decimal_word k (omega arith) in
    let few = length-decimal-le 6 k (omega arith) h (omega arith) in
    name_of_word (numbered k) (digits_are_name (decimal k) d.digits) (omega arith) (omega arith)

-- numbers that have the same name are the same
numbered_apart : (j k : ℕ) → j < 10 ^ 6 → k < 10 ^ 6 → j ≢ k → bytes_eq (numbered j) (numbered k) ≡ false
numbered_apart j k l m n = elim (cases_Bool (bytes_eq (numbered j) (numbered k))) [
  | inl e ↦
      let q : decimal j ≡ decimal k = let p = (bytes_eq-Decides (numbered j) (numbered k)).0 e in cc in
      let a = decimal_word j (omega arith) in
      let b = decimal_word k (omega arith) in
      absurd (n (sym a.number ∙ ap (number_from 0) q ∙ b.number))
  | inr e ↦ e
]

numbered_names_are : (a n : ℕ) → a + n ≤ 10 ^ 6 → list_all is_name (map numbered (range_with_len a n)) ≡ true
numbered_names_are a zero h = refl
numbered_names_are a (suc n) h = rw (numbered_name a (omega arith)) (numbered_names_are (a + 1) n (omega arith))

not_numbered : (k a n : ℕ) → k < a → a + n ≤ 10 ^ 6
    → list_any (λ v. bytes_eq (numbered k) v) (map numbered (range_with_len a n)) ≡ false
not_numbered k a zero l h = refl
not_numbered k a (suc n) l h =
    rw (numbered_apart k a (omega arith) (omega arith) (λ e. omega arith))
    (not_numbered k (a + 1) n (omega arith) (omega arith))

numbered_differ : (a n : ℕ) → a + n ≤ 10 ^ 6 → are_different (map numbered (range_with_len a n)) ≡ true
numbered_differ a zero h = refl
numbered_differ a (suc n) h =
    rw (not_numbered a (a + 1) n (omega arith) (omega arith)) (numbered_differ (a + 1) n (omega arith))

pub numbered_are_names : (n : ℕ) → n < 10 ^ 6 → are_names n (numbered_names n) ≡ true
numbered_are_names n h =
    rw (
      eq-eqb (length (numbered_names n)) n (length-map-range_with_len numbered 1 n),
      numbered_names_are 1 n (omega arith),
    ) (numbered_differ 1 n (omega arith))

-- ---- the names that are printed

pub printed_are_names : (n : ℕ) (names : List (List ℕ)) → n < 10 ^ 6 → AreNamesOn n names
    → are_names n (printed_names n names) ≡ true
printed_are_names n [] h a = numbered_are_names n h
printed_are_names n (w ∷ ws) h (inl e) = absurd (let p : w ∷ ws ≡ [] = e in cc)
printed_are_names n (w ∷ ws) h (inr e) = e

pub all_names : (n : ℕ) (ws : List (List ℕ)) → are_names n ws ≡ true → list_all is_name ws ≡ true
all_names n ws h =
    (and_parts (nat_eq (length ws) n) (list_all is_name ws)
    (and_parts (nat_eq (length ws) n && list_all is_name ws) (are_different ws) h).0).1

-- the words of a line of names
pub names_line : (n : ℕ) (ws : List (List ℕ)) → are_names n ws ≡ true → list_all is_word (codes "names" ∷ ws) ≡ true
names_line n ws h = names_are_words ws (all_names n ws h)
