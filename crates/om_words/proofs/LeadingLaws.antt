-- The elements with signs that words list.
--
-- Main results: different elements are no more than there are (few_entries); those that words list are different, lie
-- within the limit, and no sign is zero (lawful_leading). What tells whether a word may stand behind others: too_many,
-- none_spelt, spelt_before and may_follow. A word that spells one is its word (signed_back).
use Rattle.std.proofs.Math.Bool.{or-true, and-false}
use Rattle.std.specs.Prelude.{ℕ, ◌≡◌, ◌≢◌, ◌<◌, ◌≤◌, ◌+◌, Bool, true, false, cond, nat_eq, nat_lt, List, []}
use Rattle.std.specs.Prelude.{◌∷◌, ◌++◌, length, map, take, Option, Some, None, refl}
use Rattle.std.specs.List.{list_any, filter_map, IsDistinct, AllByRecursion}
use Rattle.std.proofs.Common.{get_or, eqb, suc, arith, ap, subst, sym, ◌∙◌, inl, inr, append_assoc, append-nil}
use Rattle.std.proofs.lemmas.Bool.{false≢true, both_ways, and_parts, cases_eq, eq-eqb, eqb-true, ne_eqb, not-true}
use Rattle.std.proofs.lemmas.Bool.{le-ltb, lt-ltb}
use Rattle.std.proofs.lemmas.List.{take_at, length-map}
use Rattle.std.proofs.lemmas.List.Folds.{list_any-append}
use Rattle.std.proofs.lemmas.Map.Keys.{IsDistinct-cons}
use Rattle.std.proofs.lemmas.Map.Steps.{length-le_from_distinct_below}
use Rattle.std.proofs.lemmas.Option.{same_Some}
use Rattle.om_signs.specs.declared.limits.TheConstants.{MAX_ELEMENTS}
use Rattle.om_signs.specs.declared.sign.Sign.{Sign}
use Rattle.om_signs.specs.declared.sign.Sign.TheVariants.{Plus, Minus, Zero}
use Rattle.om_signs.proofs.SignLaws.{plus_nonzero, minus_nonzero}
use Rattle.om_lines.specs.Words.{byte_of}
use Rattle.om_lexext.specs.declared.signed.Signed.{Signed}
use Rattle.om_lexext.specs.Lexicographic.{AreEntries, IsUnlisted, AreDifferent, AreNonzero, IsLexicographicList}
use Rattle.om_words.specs.declared.limits.TheConstants.{MAX_LISTED}
use Rattle.om_words.specs.declared.leading.Leading.{Leading}
use Rattle.om_words.specs.Options.{number_within}
use Rattle.om_words.specs.Listings.{signed_word, AreLeading}
use Rattle.om_words.specs.ListingSteps.{with_sign, signed_of, has_element, is_among, is_new, is_leading}
use Rattle.om_words.specs.Tasks.{given_list, elements_of, AreLawful}
use Rattle.om_words.proofs.ElementNumbers.{element_number}
use Rattle.om_words.proofs.OptionLaws.{number_limits}

-- ---- different elements are no more than there are elements

apart_from : (e : ℕ) (list : List Signed) → IsUnlisted e list → AllByRecursion (λ y. eqb e y ≡ false) (elements_of list)
apart_from e [] apart = tt
apart_from e (x ∷ xs) apart = (ne_eqb e x.element (λ same. apart.0 (sym same)), apart_from e xs apart.1)

apart_from_zero : (n : ℕ) (list : List Signed) → AreEntries n list
    → AllByRecursion (λ y. eqb 0 y ≡ false) (elements_of list)
apart_from_zero n [] entries = tt
apart_from_zero n (x ∷ xs) entries = let low = entries.0 in
    (ne_eqb 0 x.element (λ same. omega (arith, low, same)), apart_from_zero n xs entries.2)

distinct_elements : (list : List Signed) → AreDifferent list → IsDistinct eqb (elements_of list)
unfolding IsDistinct
distinct_elements [] different = tt
distinct_elements (x ∷ xs) different =
    IsDistinct-cons eqb x.element (elements_of xs) (apart_from x.element xs different.0)
    (distinct_elements xs different.1)

entries_below : (n : ℕ) (list : List Signed) → AreEntries n list → (q : ℕ) → list_any (eqb q) (elements_of list) ≡ true
    → q < n + 1
entries_below n [] entries q among = absurd (false≢true among)
entries_below n (x ∷ xs) entries q among = elim (cases_eq q x.element) [
  | inl same ↦ let high = entries.1 in omega (arith, high, same)
  | inr other ↦ entries_below n xs entries.2 q (rw (ne_eqb q x.element other) at among)
]

zero_below : (n : ℕ) (list : List Signed) → AreEntries n list → (q : ℕ) → list_any (eqb q) (0 ∷ elements_of list) ≡ true
    → q < n + 1
zero_below n list entries q among = elim (cases_eq q 0) [
  | inl same ↦ omega (arith, same)
  | inr other ↦ entries_below n list entries q (rw (ne_eqb q 0 other) at among)
]

-- a list of entries that name different elements of 1 to n has at most n entries
pub few_entries : (n : ℕ) (list : List Signed) → AreEntries n list → AreDifferent list → length list ≤ n
few_entries n list entries different =
    let all : length (0 ∷ elements_of list) ≤ n + 1 =
    length-le_from_distinct_below (0 ∷ elements_of list) (n + 1)
    (IsDistinct-cons eqb 0 (elements_of list) (apart_from_zero n list entries) (distinct_elements list different))
    (zero_below n list entries) in
    let size : length (elements_of list) ≡ length list = length-map list (λ (x : Signed). x.element) in
    omega (arith, all, size)

-- ---- a word that is an element with a sign

-- an element within the limit, and a sign that isn't zero
record IsListed (x : Signed) : Type 0 where
  low : 1 ≤ x.element
  high : x.element ≤ MAX_ELEMENTS
  signed : x.sign ≢ Zero

listed_by : (s : Sign) (digits : List ℕ) (x : Signed) → s ≢ Zero
    → with_sign s (number_within 1 MAX_ELEMENTS digits) ≡ Some x → IsListed x
listed_by s digits x nonzero is = by_number (number_within 1 MAX_ELEMENTS digits) refl is
  where
    by_number : (o : Option ℕ) → number_within 1 MAX_ELEMENTS digits ≡ o → with_sign s o ≡ Some x → IsListed x
    by_number None number made = cc
    by_number (Some e) number made =
        let limits = number_limits 1 MAX_ELEMENTS e digits number in
        subst IsListed (same_Some _ _ made) (record { low = limits.0; high = limits.1; signed = nonzero })

listed_of : (word : List ℕ) (x : Signed) → signed_of word ≡ Some x → IsListed x
listed_of [] x is = cc
listed_of (b ∷ digits) x is = by_sign (nat_eq b 43) (nat_eq b 45) is
  where
    by_sign : (p m : Bool) → cond p (with_sign Plus (number_within 1 MAX_ELEMENTS digits))
        (cond m (with_sign Minus (number_within 1 MAX_ELEMENTS digits)) None) ≡ Some x → IsListed x
    by_sign true m made = listed_by Plus digits x plus_nonzero made
    by_sign false true made = listed_by Minus digits x minus_nonzero made
    by_sign false false made = cc

-- a word that spells an element with a sign is the word of this element and sign
pub signed_back : (word : List ℕ) (x : Signed) → signed_of word ≡ Some x → word ≡ signed_word x
signed_back [] x is = cc
signed_back (b ∷ digits) x is = by_sign (nat_eq b 43) refl (nat_eq b 45) refl is
  where
    by_number : (s : Sign) (o : Option ℕ) → number_within 1 MAX_ELEMENTS digits ≡ o → with_sign s o ≡ Some x
        → byte_of s ∷ digits ≡ signed_word x
    by_number s None number made = cc
    by_number s (Some e) number made =
        let one : record { element = e; sign = s } ≡ x = same_Some _ _ made in
        rw ((element_number digits e).0 number).digits
        (ap signed_word one)

    by_sign : (p : Bool) → nat_eq b 43 ≡ p → (m : Bool) → nat_eq b 45 ≡ m
        → cond p (with_sign Plus (number_within 1 MAX_ELEMENTS digits))
        (cond m (with_sign Minus (number_within 1 MAX_ELEMENTS digits)) None) ≡ Some x → b ∷ digits ≡ signed_word x
    by_sign true plus m minus made =
        ap (λ k. k ∷ digits) (eqb-true b 43 plus) ∙ by_number Plus (number_within 1 MAX_ELEMENTS digits) refl made
    by_sign false plus true minus made =
        ap (λ k. k ∷ digits) (eqb-true b 45 minus) ∙ by_number Minus (number_within 1 MAX_ELEMENTS digits) refl made
    by_sign false plus false minus made = cc

-- ---- whether a word may stand behind others

-- a word behind as many as may be listed
pub too_many : (before : List (List ℕ)) (word : List ℕ) → MAX_LISTED ≤ length before → is_leading before word ≡ false
too_many before word many = rw (le-ltb (length before) MAX_LISTED many) refl

-- a word that spells no element with a sign
pub none_spelt : (before : List (List ℕ)) (word : List ℕ) → signed_of word ≡ None → is_leading before word ≡ false
none_spelt before word none = rw none (and-false (nat_lt (length before) MAX_LISTED))

-- a word whose element a word before spells
pub spelt_before : (before : List (List ℕ)) (word : List ℕ) (x : Signed) → signed_of word ≡ Some x
    → is_among x.element before ≡ true → is_leading before word ≡ false
spelt_before before word x is among = rw (is, among) (and-false (nat_lt (length before) MAX_LISTED))

-- a word whose element no word before spells, where there is room
pub may_follow : (before : List (List ℕ)) (word : List ℕ) (x : Signed) → length before < MAX_LISTED
    → signed_of word ≡ Some x → is_among x.element before ≡ false → is_leading before word ≡ true
may_follow before word x room is new = rw (lt-ltb (length before) MAX_LISTED room, is, new) refl

-- a word that may stand behind others: its element with a sign, which none of them has
record IsNext (before : List (List ℕ)) (word : List ℕ) : Type 0 where
  value : Signed
  is : signed_of word ≡ Some value
  new : is_among value.element before ≡ false

next_of : (before : List (List ℕ)) (word : List ℕ) → is_leading before word ≡ true → IsNext before word
next_of before word leads =
    by_value (signed_of word) refl
    (and_parts (nat_lt (length before) MAX_LISTED) (is_new before (signed_of word)) leads).1
  where
    by_value : (o : Option Signed) → signed_of word ≡ o → is_new before o ≡ true → IsNext before word
    by_value None is new = absurd (false≢true new)
    by_value (Some x) is new = record { value = x; is = is; new = not-true (is_among x.element before) new }

-- ---- the elements with signs of words that may stand behind others

pub record AreListed (before words : List (List ℕ)) : Type 0 where
  pub count : length (filter_map signed_of words) ≡ length words
  pub entries : AreEntries MAX_ELEMENTS (filter_map signed_of words)
  pub different : AreDifferent (filter_map signed_of words)
  pub signed : AreNonzero (filter_map signed_of words)
  pub spelled : words ≡ map signed_word (filter_map signed_of words)
  pub apart : (e : ℕ) → is_among e before ≡ true → IsUnlisted e (filter_map signed_of words)

among_front : (e : ℕ) (before after : List (List ℕ)) → is_among e before ≡ true → is_among e (before ++ after) ≡ true
among_front e before after among = rw (list_any-append (λ w. has_element e (signed_of w)) before after, among) refl

among_last : (before : List (List ℕ)) (word : List ℕ) (x : Signed) → signed_of word ≡ Some x
    → is_among x.element (before ++ word ∷ []) ≡ true
among_last before word x is =
    rw (
      list_any-append (λ w. has_element x.element (signed_of w)) before (word ∷ []),
      is,
      eq-eqb x.element x.element refl,
    ) (or-true (is_among x.element before))

pub listed_words : (before words : List (List ℕ))
    → ((i : ℕ) → i < length words → is_leading (before ++ take i words) (get_or words i []) ≡ true)
    → AreListed before words
listed_words before [] each = record {
  count = refl;
  entries = tt;
  different = tt;
  signed = tt;
  spelled = refl;
  apart = λ e among. tt;
}
listed_words before (w ∷ ws) each =
    let first : is_leading before w ≡ true = rw (append-nil before) at (each 0 (omega arith)) in
    let next = next_of before w first in
    let rest =
    listed_words (before ++ w ∷ []) ws
    (λ i l. rw (append_assoc before (w ∷ []) (take i ws)) (each (suc i) (omega (arith, l)))) in
    let head = listed_of w next.value next.is in
    more next.value next.is next.new head rest
  where
    more : (x : Signed) → signed_of w ≡ Some x → is_among x.element before ≡ false → IsListed x
        → AreListed (before ++ w ∷ []) ws → AreListed before (w ∷ ws)
    more x is new head rest =
        let same : filter_map signed_of (w ∷ ws) ≡ x ∷ filter_map signed_of ws = rw is refl in
        record {
          count = let c = rest.count in rw same (omega (arith, c));
          entries = rw same (head.low, head.high, rest.entries);
          different = rw same (rest.apart x.element (among_last before w x is), rest.different);
          signed = rw same (head.signed, rest.signed);
          spelled = rw same
              (ap (λ k. k ∷ ws) (signed_back w x is) ∙ ap (λ ks. signed_word x ∷ ks) rest.spelled);
          apart = λ e among. rw same (
            (λ one. both_ways (is_among x.element before) new
                (subst (λ k. is_among k before ≡ true) (sym one) among)),
            rest.apart e (among_front e before (w ∷ []) among),
          );
        }

pub lawful_leading : (words : List (List ℕ)) (leading : Leading) → AreLeading words leading → AreLawful leading
lawful_leading words leading read =
    let same : given_list leading ≡ read.listed =
    ap (take leading.count) read.list ∙ take_at read.listed _ leading.count (sym read.count) in
    let few = read.lawful.few in
    let count = read.count in
    record {
      few = omega (arith, few, count);
      listed = subst (IsLexicographicList MAX_ELEMENTS) (sym same) read.lawful;
    }
