-- What calls read step by step is what the words list.
--
-- Main results: colouring_meant, leading_meant
use Rattle.std.specs.Prelude.{ℕ, ◌≡◌, ◌≢◌, ◌<◌, ◌≤◌, ◌+◌, ◌↔◌, Bool, true, false, cond, nat_eq, nat_le, List, [], ◌∷◌}
use Rattle.std.specs.Prelude.{◌++◌, ◌&&◌, length, map, take, Option, Some, None, is_some, Result, Ok, Err, IfErr, refl}
use Rattle.std.specs.Fmt.{decimal}
use Rattle.std.specs.List.{list_all, filter_map}
use Rattle.std.proofs.Common.{get_or, zero, suc, arith, ap, subst, sym, ◌∙◌, append_assoc, append-nil}
use Rattle.std.proofs.lemmas.Bool.{and_parts, eqb-true, leb-true, le-leb, ne_eqb}
use Rattle.std.proofs.lemmas.List.{length-map, length_push}
use Rattle.std.proofs.lemmas.List.Folds.{list_any-append}
use Rattle.std.proofs.lemmas.Option.{same_Some}
use Rattle.om_signs.specs.declared.limits.TheConstants.{MAX_ELEMENTS}
use Rattle.om_signs.specs.declared.sign.Sign.{Sign}
use Rattle.om_signs.specs.declared.sign.Sign.TheVariants.{Minus, Zero, Plus}
use Rattle.om_lines.specs.Words.{byte_of}
use Rattle.om_oriented.specs.declared.colour.Colour.{Colour}
use Rattle.om_oriented.specs.declared.colour.Colour.TheVariants.{Red, Green, Black, White}
use Rattle.om_lexext.specs.declared.signed.Signed.{Signed}
use Rattle.om_lexext.specs.Lexicographic.{AreEntries, IsUnlisted, AreDifferent, AreNonzero}
use Rattle.om_printing.specs.declared.usage.Usage.{Usage}
use Rattle.om_words.specs.declared.colouring.Colouring.{Colouring}
use Rattle.om_words.specs.declared.leading.Leading.{Leading}
use Rattle.om_words.specs.declared.limits.TheConstants.{MAX_LISTED}
use Rattle.om_words.specs.Listings.{padded, letter_of, AreColouring, signed_word, AreLeading}
use Rattle.om_words.specs.ListingSteps.{colour_of, are_colours, signed_of, has_element, is_among}
use Rattle.om_words.specs.ListingSteps.{is_leading}
use Rattle.om_words.specs.Words.{HasValue, IsFault, IsRead}
use Rattle.om_words.proofs.ElementNumbers.{element_number}
use Rattle.om_words.proofs.LeadingLaws.{few_entries, listed_words, may_follow}
use Rattle.om_words.proofs.ListingLaws.{unlisted}
use Rattle.om_words.proofs.ReadListings.{IsReadColouring, IsReadLeading}
use Rattle.om_words.proofs.WordLaws.{fault_of}

-- a call that reads words as one of two values that are the same reads them as the other
read_same : {A : Type 0} (R Q : List (List ℕ) → A → Type 0) → ((words : List (List ℕ)) (a : A) → R words a ↔ Q words a)
    → (words : List (List ℕ)) (result : Result A Usage) → IsRead R words result → IsRead Q words result
read_same {A = A} R Q same words result read = record {
  value = λ a. (λ made. (same words a).0 ((read.value a).0 made), λ h. (read.value a).1 ((same words a).1 h));
  fault = at result read.fault;
}
  where
    values : (ws : List (List ℕ)) → HasValue R ws ↔ HasValue Q ws
    values ws = (λ h. (h.0, (same ws h.0).0 h.1), λ h. (h.0, (same ws h.0).1 h.1))

    at : (r : Result A Usage)
        → IfErr r (λ usage. (k : ℕ) × ((usage.word ≡ k + 1) × IsFault (HasValue R) words k))
        → IfErr r (λ usage. (k : ℕ) × ((usage.word ≡ k + 1) × IsFault (HasValue Q) words k))
    at (Ok a) fault = tt
    at (Err usage) fault =
        (fault.0, (fault.1.0, fault_of (HasValue R) (HasValue Q) values fault.1.1))

-- ---- colours and an element

letter_read : (c : Colour) → colour_of (letter_of c) ≡ Some c
letter_read Red = refl
letter_read Green = refl
letter_read Black = refl
letter_read White = refl

letters_read : (cs : List Colour) → filter_map colour_of (map letter_of cs) ≡ cs
letters_read [] = refl
letters_read (c ∷ cs) = rw (letter_read c) (ap (λ ds. c ∷ ds) (letters_read cs))

all_letters : (cs : List Colour) → list_all (λ b. is_some (colour_of b)) (map letter_of cs) ≡ true
all_letters [] = refl
all_letters (c ∷ cs) = rw (letter_read c) (all_letters cs)

letter_back : (b : ℕ) (c : Colour) → colour_of b ≡ Some c → b ≡ letter_of c
letter_back b c is = by_tests (nat_eq b 82) refl (nat_eq b 71) refl (nat_eq b 66) refl (nat_eq b 87) refl is
  where
    by_tests : (p : Bool) → nat_eq b 82 ≡ p → (q : Bool) → nat_eq b 71 ≡ q → (r : Bool) → nat_eq b 66 ≡ r → (s : Bool)
        → nat_eq b 87 ≡ s
        → cond p (Some Red) (cond q (Some Green) (cond r (Some Black) (cond s (Some White) None))) ≡ Some c
        → b ≡ letter_of c
    by_tests true e q f r g s h made = eqb-true b 82 e ∙ ap letter_of (same_Some _ _ made)
    by_tests false e true f r g s h made = eqb-true b 71 f ∙ ap letter_of (same_Some _ _ made)
    by_tests false e false f true g s h made = eqb-true b 66 g ∙ ap letter_of (same_Some _ _ made)
    by_tests false e false f false g true h made = eqb-true b 87 h ∙ ap letter_of (same_Some _ _ made)
    by_tests false e false f false g false h made = cc

letters_back : (word : List ℕ) → list_all (λ b. is_some (colour_of b)) word ≡ true
    → word ≡ map letter_of (filter_map colour_of word)
letters_back [] all = refl
letters_back (b ∷ bs) all =
    one (colour_of b) refl (and_parts (is_some (colour_of b)) _ all) (λ rest. letters_back bs rest)
  where
    one : (o : Option Colour) → colour_of b ≡ o
        → (is_some (colour_of b) ≡ true) × (list_all (λ b. is_some (colour_of b)) bs ≡ true)
        → (list_all (λ b. is_some (colour_of b)) bs ≡ true → bs ≡ map letter_of (filter_map colour_of bs))
        → b ∷ bs ≡ map letter_of (filter_map colour_of (b ∷ bs))
    one None none parts back = let no : is_some (colour_of b) ≡ false = rw none refl in let yes = parts.0 in cc
    one (Some c) is parts back =
        let first = letter_back b c is in
        let rest = back parts.1 in
        rw is cc

colouring_same : (words : List (List ℕ)) (a : Colouring) → IsReadColouring words a ↔ AreColouring words a
colouring_same words a = (λ h. to h, λ h. from h)
  where
    to : IsReadColouring words a → AreColouring words a
    to h = by_test (are_colours h.letters) refl h.colours
      where
        by_test : (b : Bool) → are_colours h.letters ≡ b
            → cond b (Some (padded White (filter_map colour_of h.letters))) None ≡ Some a.colours → AreColouring words a
        by_test false fails made = cc
        by_test true holds made =
            let parts = and_parts (nat_le 1 (length h.letters) && nat_le (length h.letters) MAX_LISTED)
            (list_all (λ b. is_some (colour_of b)) h.letters) holds in
            let sizes = and_parts (nat_le 1 (length h.letters)) (nat_le (length h.letters) MAX_LISTED) parts.0 in
            let back = letters_back h.letters parts.1 in
            let size : length h.letters ≡ length (filter_map colour_of h.letters) =
            ap length back ∙ length-map (filter_map colour_of h.letters) letter_of in
            let some = leb-true 1 (length h.letters) sizes.0 in
            let few = leb-true (length h.letters) MAX_LISTED sizes.1 in
            record {
              listed = filter_map colour_of h.letters;
              digits = h.digits;
              two = h.two ∙ ap (λ w. w ∷ h.digits ∷ []) back;
              some = omega (arith, some, size);
              few = omega (arith, few, size);
              colours = sym (same_Some _ _ made);
              count = h.count ∙ size;
              element = h.element;
            }

    from : AreColouring words a → IsReadColouring words a
    from h =
        let size = length-map h.listed letter_of in
        let some : 1 ≤ length (map letter_of h.listed) = let l = h.some in omega (arith, size, l) in
        let few : length (map letter_of h.listed) ≤ MAX_LISTED = let l = h.few in omega (arith, size, l) in
        let low = le-leb 1 (length (map letter_of h.listed)) some in
        let high = le-leb (length (map letter_of h.listed)) MAX_LISTED few in
        record {
          letters = map letter_of h.listed;
          digits = h.digits;
          two = h.two;
          colours = rw (low, high, all_letters h.listed, letters_read h.listed)
              (ap Some (sym h.colours));
          count = h.count ∙ sym size;
          element = h.element;
        }

pub colouring_meant : (words : List (List ℕ)) (result : Result Colouring Usage) → IsRead IsReadColouring words result
    → IsRead AreColouring words result
colouring_meant words result read = read_same IsReadColouring AreColouring colouring_same words result read

-- ---- elements with signs

signed_read : (e : ℕ) (s : Sign) → 1 ≤ e → e ≤ MAX_ELEMENTS → s ≢ Zero
    → signed_of (byte_of s ∷ decimal e) ≡ Some (record { element = e; sign = s })
signed_read e Zero low high nonzero = absurd (nonzero refl)
signed_read e Plus low high nonzero =
    rw ((element_number (decimal e) e).1 (record { low = low; high = high; digits = refl })) refl
signed_read e Minus low high nonzero =
    rw ((element_number (decimal e) e).1 (record { low = low; high = high; digits = refl })) refl

all_read : (list : List Signed) → AreEntries MAX_ELEMENTS list → AreNonzero list
    → filter_map signed_of (map signed_word list) ≡ list
all_read [] entries signed = refl
all_read (x ∷ xs) entries signed =
    rw (signed_read x.element x.sign entries.0 entries.1 signed.0)
    (ap (λ ys. x ∷ ys) (all_read xs entries.2 signed.1))

-- no element of the list is among those of the words
abbrev AreApart : List (List ℕ) → List Signed → Type 0
AreApart before [] = Unit {0}
AreApart before (x ∷ xs) = (is_among x.element before ≡ false) × AreApart before xs

apart_none : (list : List Signed) → AreApart [] list
apart_none [] = tt
apart_none (x ∷ xs) = (refl, apart_none xs)

apart_more : (before : List (List ℕ)) (x : Signed) (word : List ℕ) (list : List Signed) → signed_of word ≡ Some x
    → IsUnlisted x.element list → AreApart before list → AreApart (before ++ word ∷ []) list
apart_more before x word [] is other apart = tt
apart_more before x word (y ∷ ys) is other apart = (
  rw (
    list_any-append (λ w. has_element y.element (signed_of w)) before (word ∷ []),
    apart.0,
    is,
    ne_eqb x.element y.element (λ same. other.0 (sym same)),
  ) refl,
  apart_more before x word ys is other.1 apart.1,
)

follow : (before : List (List ℕ)) (list : List Signed) → length before + length list ≤ MAX_LISTED
    → AreEntries MAX_ELEMENTS list → AreNonzero list → AreDifferent list → AreApart before list → (i : ℕ)
    → i < length (map signed_word list)
    → is_leading (before ++ take i (map signed_word list)) (get_or (map signed_word list) i []) ≡ true
follow before [] room entries signed different apart i l = absurd (omega (arith, l))
follow before (x ∷ xs) room entries signed different apart zero l =
    rw (append-nil before)
    (may_follow before (signed_word x) x (omega (arith, room))
    (signed_read x.element x.sign entries.0 entries.1 signed.0) apart.0)
follow before (x ∷ xs) room entries signed different apart (suc i) l =
    let is = signed_read x.element x.sign entries.0 entries.1 signed.0 in
    let size : length (before ++ signed_word x ∷ []) ≡ length before + 1 = length_push before (signed_word x) in
    subst (λ ws. is_leading ws (get_or (map signed_word xs) i []) ≡ true)
    (append_assoc before (signed_word x ∷ []) (take i (map signed_word xs)))
    (follow (before ++ signed_word x ∷ []) xs (omega (arith, size, room)) entries.2 signed.1 different.1
    (apart_more before x (signed_word x) xs is different.0 apart.1) i (omega (arith, l)))

leading_same : (words : List (List ℕ)) (a : Leading) → IsReadLeading words a ↔ AreLeading words a
leading_same words a = (λ h. to h, λ h. from h)
  where
    to : IsReadLeading words a → AreLeading words a
    to h =
        let read = listed_words [] words h.each in
        let count = read.count in
        let some = h.some in
        record {
          listed = filter_map signed_of words;
          lawful = record {
            some = omega (arith, some, count);
            few = few_entries MAX_ELEMENTS (filter_map signed_of words) read.entries read.different;
            entries = read.entries;
            different = read.different;
            signed = read.signed;
          };
          spelled = read.spelled;
          list = h.list;
          count = h.count ∙ sym count;
        }

    from : AreLeading words a → IsReadLeading words a
    from h =
        let good = h.lawful in
        let size : length (map signed_word h.listed) ≡ length h.listed = length-map h.listed signed_word in
        let few = good.few in
        subst (λ ws. IsReadLeading ws a) (sym h.spelled) (record {
          some = let some = good.some in omega (arith, size, some);
          each = follow [] h.listed (omega (arith, few)) good.entries good.signed good.different (apart_none h.listed);
          list = h.list
              ∙ ap (λ (es : List Signed). padded unlisted es) (sym (all_read h.listed good.entries good.signed));
          count = h.count ∙ sym size;
        })

pub leading_meant : (words : List (List ℕ)) (result : Result Leading Usage) → IsRead IsReadLeading words result
    → IsRead AreLeading words result
leading_meant words result read = read_same IsReadLeading AreLeading leading_same words result read
