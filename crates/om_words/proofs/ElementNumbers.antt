-- Words that are numbers of elements, and increasing lists with their last number.
--
-- Main definitions: AreIncreasing, GoesOn
-- Main results: same_number, one_element, element_number, element_read, this_above, last_of
use Rattle.std.specs.Prelude.{ℕ, ◌≡◌, ◌<◌, ◌≤◌, ◌^◌, ◌↔◌, length, map, List, [], ◌∷◌, ◌++◌, refl, Option, Some, None}
use Rattle.std.specs.Prelude.{Bool, true, false, cond, not, nat_eq, nat_le, ◌&&◌, ◌||◌}
use Rattle.std.specs.List.{list_all}
use Rattle.std.specs.Fmt.{decimal}
use Rattle.std.proofs.Common.{arith, rules, ap, subst, sym, ◌∙◌, inl, inr, lit≤, lit<, get_or}
use Rattle.std.proofs.lemmas.Bool.{ne_eqb, eq-eqb, eqb-true, le-leb, leb-true, le-ltb, and_parts}
use Rattle.std.proofs.lemmas.Fmt.{decimal_injective, decimal-digits_value}
use Rattle.std.proofs.lemmas.Option.{same_Some}
use Rattle.std.proofs.lemmas.Str.Parse.{numerals_by_fold}
use Rattle.om_signs.specs.declared.limits.TheConstants.{MAX_ELEMENTS}
use Rattle.om_subsets.specs.Subsets.{IsSubsetFrom, IsMember, with_element}
use Rattle.om_subsets.specs.Lists.{IsIncreasing}
use Rattle.om_subsets.proofs.Statements.{subset_is_increasing}
use Rattle.om_subsets.proofs.Order.{increasing_tail, head_below}
use Rattle.om_lines.specs.Words.{is_digit, number_from, begins_with, is_decimal, up_to, unsigned}
use Rattle.om_document.proofs.Numerals.{decimal_word, unsigned_word}
use Rattle.om_words.specs.Options.{from_least, number_within}
use Rattle.om_words.specs.Words.{IsElement}
use Rattle.om_words.proofs.OptionLaws.{number_limits}
use Rattle.om_words.proofs.WordLaws.{first_of, tail_of}

-- ---- numbers

pub same_number : (e f : ℕ) → e ≤ MAX_ELEMENTS → f ≤ MAX_ELEMENTS → decimal e ≡ decimal f → e ≡ f
same_number e f le lf same = decimal_injective e f (small e le) (small f lf) same
  where
    small : (k : ℕ) → k ≤ MAX_ELEMENTS → k < 2 ^ 64
    small k l = let big : MAX_ELEMENTS < 2 ^ 64 = lit≤ tt in omega (arith, big, l)

pub one_element : (word : List ℕ) (e f : ℕ) → IsElement word e → IsElement word f → e ≡ f
one_element word e f a b = same_number e f a.high b.high (sym a.digits ∙ b.digits)

-- ---- the number that a word spells

one_digit : (word : List ℕ) → (nat_eq (length word) 1 || not (begins_with 48 word)) ≡ true → get_or word 0 0 ≡ 48
    → length word ≡ 1
one_digit [] h zero = absurd (omega (arith, zero))
one_digit (b ∷ bs) h zero =
    eqb-true (length (b ∷ bs)) 1 (left (nat_eq (length (b ∷ bs)) 1) (rw (eq-eqb b 48 zero) at h))
  where
    left : (x : Bool) → (x || false) ≡ true → x ≡ true
    left true h = refl
    left false h = h

-- the number that decimal digits spell is printed as these digits
digits_back : (word : List ℕ) → is_decimal word ≡ true → number_from 0 word < 2 ^ 64
    → decimal (number_from 0 word) ≡ word
digits_back word is small =
    let parts = and_parts (list_all is_digit word && nat_le 1 (length word))
    (nat_eq (length word) 1 || not (begins_with 48 word)) is in
    let digits = and_parts (list_all is_digit word) (nat_le 1 (length word)) parts.0 in
    decimal-digits_value {P = λ ds. list_all is_digit ds ≡ true} {v = number_from 0}
    (numerals_by_fold _ (search rules) number_from (search rules)) word digits.0 (leb-true 1 (length word) digits.1)
    (one_digit word parts.1) small

spelled_digits : (limit n : ℕ) (word : List ℕ) → limit < 2 ^ 64 → unsigned limit word ≡ Some n → word ≡ decimal n
spelled_digits limit n word small is = by_word (is_decimal word) refl is
  where
    by_limit : (b : Bool) → nat_le (number_from 0 word) limit ≡ b → is_decimal word ≡ true
        → cond b (Some (number_from 0 word)) None ≡ Some n → word ≡ decimal n
    by_limit false low word_is same = cc
    by_limit true low word_is same =
        let few = leb-true (number_from 0 word) limit low in
        sym (digits_back word word_is (omega (arith, few, small))) ∙ ap decimal (same_Some _ _ same)

    by_word : (b : Bool) → is_decimal word ≡ b → cond b (up_to limit (number_from 0 word)) None ≡ Some n
        → word ≡ decimal n
    by_word false word_is same = cc
    by_word true word_is same = by_limit (nat_le (number_from 0 word) limit) refl word_is same

within_spelled : (least limit n : ℕ) (word : List ℕ) → number_within least limit word ≡ Some n
    → unsigned limit word ≡ Some n
within_spelled least limit n word is = one (unsigned limit word) is
  where
    one : (o : Option ℕ) → from_least least o ≡ Some n → o ≡ Some n
    one None same = cc
    one (Some k) same = low (nat_le least k) same
      where
        low : (b : Bool) → cond b (Some k) None ≡ Some n → ◌≡◌ {A = Option ℕ} (Some k) (Some n)
        low false same = cc
        low true same = same

-- a word spells a number from 1 to the limit on elements where it is the number of an element
pub element_number : (word : List ℕ) (e : ℕ) → (number_within 1 MAX_ELEMENTS word ≡ Some e) ↔ IsElement word e
element_number word e = (
  λ is. let l = number_limits 1 MAX_ELEMENTS e word is in record {
    low = l.0;
    high = l.1;
    digits = spelled_digits MAX_ELEMENTS e word (lit< tt) (within_spelled 1 MAX_ELEMENTS e word is);
  },
  λ element.
      let high = element.high in
      let small : e < 10 ^ 64 = let limit : MAX_ELEMENTS < 10 ^ 64 = lit< tt in omega (arith, high, limit) in
      rw (element.digits, unsigned_word MAX_ELEMENTS e (decimal_word e small) high, le-leb 1 e element.low) refl,
)

-- what is read of a word's bytes as a number up to the limit on elements is the element whose number the word is
pub element_read : (word bytes : List ℕ) (greatest : ℕ) (read : Option ℕ) → bytes ≡ word → greatest ≡ MAX_ELEMENTS
    → read ≡ number_within 1 greatest bytes → (e : ℕ) → (read ≡ Some e) ↔ IsElement word e
element_read word bytes greatest read same limit is e = rw (is, same, limit) (element_number word e)

pub this_above : (word : List ℕ) (last e : ℕ) → IsElement word e → last < e → (f : ℕ) → (Some e ≡ Some f)
    ↔ (IsElement word f × (last < f))
this_above word last e element above f = (
  λ same. let one : e ≡ f = same_Some _ _ same in subst (λ g. IsElement word g × (last < g)) one (element, above),
  λ both. ap Some (one_element word e f element both.0),
)

-- ---- increasing lists and their last number

-- the last number, and d where there is none
unfoldable pub last_of : ℕ → List ℕ → ℕ
last_of d [] = d
last_of d (x ∷ xs) = last_of x xs

from_last : (d : ℕ) (xs : List ℕ) → IsIncreasing (d ∷ xs) → d ≤ last_of d xs
unfolding last_of
from_last d [] h = omega arith
from_last d (x ∷ xs) h = let i = from_last x xs h.1 in let l = h.0 in omega (arith, i, l)

pub appended : (d e : ℕ) (xs : List ℕ) → IsIncreasing (d ∷ xs) → last_of d xs < e → with_element e xs ≡ xs ++ e ∷ []
unfolding last_of
appended d e [] h l = refl
appended d e (x ∷ xs) h l =
    let low : x ≤ last_of x xs = from_last x xs h.1 in
    let apart : e ≡ x → ⊥ = λ same. omega (arith, low, l, same) in
    let above : x ≤ e = omega (arith, low, l) in
    rw (ne_eqb e x apart, le-ltb e x above) (ap (λ k. x ∷ k) (appended x e xs h.1 l))

pub increasing_more : (d e : ℕ) (xs : List ℕ) → IsIncreasing (d ∷ xs) → last_of d xs < e
    → IsIncreasing (d ∷ xs ++ e ∷ [])
unfolding last_of
increasing_more d e [] h l = (l, tt)
increasing_more d e (x ∷ xs) h l = (h.0, increasing_more x e xs h.1 l)

pub last_more : (d e : ℕ) (xs : List ℕ) → last_of d (xs ++ e ∷ []) ≡ e
unfolding last_of
last_more d e [] = refl
last_more d e (x ∷ xs) = last_more x e xs

pub below_next : (d f : ℕ) (xs more : List ℕ) → IsIncreasing (d ∷ xs ++ f ∷ more) → last_of d xs < f
unfolding last_of
below_next d f [] more h = h.0
below_next d f (x ∷ xs) more h = below_next x f xs more h.1

pub is_empty : (xs : List ℕ) → IsIncreasing (0 ∷ xs) → last_of 0 xs ≡ 0 → xs ≡ []
unfolding last_of
is_empty [] h l = refl
is_empty (x ∷ xs) h l = let i = from_last x xs h.1 in let p = h.0 in absurd (omega (arith, i, p, l))

pub has_some : (xs : List ℕ) → (last_of 0 xs ≡ 0 → ⊥) → 1 ≤ length xs
unfolding last_of
has_some [] h = absurd (h refl)
has_some (x ∷ xs) h = omega arith

-- ---- lists of elements

-- the numbers increase and are elements
pub record AreIncreasing (xs : List ℕ) : Type 0 where
  pub increasing : IsIncreasing (0 ∷ xs)
  pub within : (e : ℕ) → IsMember e xs → e ≤ MAX_ELEMENTS

from_zero : (xs : List ℕ) → IsIncreasing xs → ((e : ℕ) → IsMember e xs → 1 ≤ e) → IsIncreasing (0 ∷ xs)
from_zero [] h low = tt
from_zero (x ∷ xs) h low = (low x (inl refl), h)

pub subset_increasing : (xs : List ℕ) → IsSubsetFrom 1 MAX_ELEMENTS xs → AreIncreasing xs
subset_increasing xs subset =
    let h = (subset_is_increasing MAX_ELEMENTS xs).0 subset in
    record { increasing = from_zero xs h.0 (λ e m. (h.1 e m).0); within = λ e m. (h.1 e m).1 }

pub increasing_subset : (xs : List ℕ) → AreIncreasing xs → IsSubsetFrom 1 MAX_ELEMENTS xs
increasing_subset xs h =
    (subset_is_increasing MAX_ELEMENTS xs).1 (
      increasing_tail 0 xs h.increasing,
      λ e m. (let l = head_below 0 e xs h.increasing m in omega (arith, l), h.within e m),
    )

-- ---- numbers of elements

pub same_numbers : (xs ys : List ℕ) → ((e : ℕ) → IsMember e xs → e ≤ MAX_ELEMENTS)
    → ((e : ℕ) → IsMember e ys → e ≤ MAX_ELEMENTS) → map decimal xs ≡ map decimal ys → xs ≡ ys
same_numbers [] [] a b same = refl
same_numbers [] (y ∷ ys) a b same = cc
same_numbers (x ∷ xs) [] a b same = cc
same_numbers (x ∷ xs) (y ∷ ys) a b same =
    let first : x ≡ y = same_number x y (a x (inl refl)) (b y (inl refl)) (ap first_of same) in
    let rest : xs ≡ ys = same_numbers xs ys (λ e m. a e (inr m)) (λ e m. b e (inr m)) (ap tail_of same) in
    cc

-- the list goes on with the number of a word
pub record GoesOn (xs ys : List ℕ) (word : List ℕ) : Type 0 where
  pub next : ℕ
  pub more : List ℕ
  pub list : ys ≡ xs ++ next ∷ more
  pub digits : word ≡ decimal next
  pub high : next ≤ MAX_ELEMENTS

pub goes_on : (xs ys : List ℕ) (word : List ℕ) (rest : List (List ℕ)) → ((e : ℕ) → IsMember e xs → e ≤ MAX_ELEMENTS)
    → ((e : ℕ) → IsMember e ys → e ≤ MAX_ELEMENTS) → map decimal xs ++ word ∷ rest ≡ map decimal ys → GoesOn xs ys word
goes_on [] [] word rest a b same = cc
goes_on [] (y ∷ ys) word rest a b same =
    record { next = y; more = ys; list = refl; digits = ap first_of same; high = b y (inl refl) }
goes_on (x ∷ xs) [] word rest a b same = cc
goes_on (x ∷ xs) (y ∷ ys) word rest a b same =
    let first : x ≡ y = same_number x y (a x (inl refl)) (b y (inl refl)) (ap first_of same) in
    let i = goes_on xs ys word rest (λ e m. a e (inr m)) (λ e m. b e (inr m)) (ap tail_of same) in
    let list = i.list in
    record { next = i.next; more = i.more; list = cc; digits = i.digits; high = i.high }
