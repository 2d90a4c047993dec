-- The elements with signs of a lexicographic extension.
--
-- Main results: none above n, they are a list for n elements (listed_within); the first listed element above n
-- (element_found, none_found); why there is no extension (refused_values,
-- memory_is_cause).
use Rattle.std.specs.Prelude.{ℕ, ◌≡◌, ◌<◌, ◌≤◌, ◌+◌, ◌↔◌, not, List, [], ◌∷◌, length, Some, None, refl}
use Rattle.std.proofs.Common.{get_or, zero, suc, arith, subst, sym, inl, inr}
use Rattle.std.proofs.lemmas.Bool.{cases_lt, lt-ltb, le-ltb}
use Rattle.std.proofs.lemmas.Option.{none-some}
use Rattle.om_signs.specs.declared.limits.TheConstants.{MAX_ELEMENTS, MAX_VALUES}
use Rattle.om_subsets.specs.Subsets.{choose}
use Rattle.om_chirotope.specs.Map.{SignMap}
use Rattle.om_lexext.specs.declared.lex_error.LexError.{LexError}
use Rattle.om_lexext.specs.declared.lex_error.LexError.TheVariants as why_of
use Rattle.om_lexext.specs.declared.signed.Signed.{Signed}
use Rattle.om_lexext.specs.Lexicographic.{AreEntries, IsLexicographicList, IsFull, IsOverValues, NamesNumber}
use Rattle.om_printing.specs.declared.line.Line.TheVariants as line
use Rattle.om_reply.specs.Answers.{says}
use Rattle.om_reply.specs.Above.{first_above}
use Rattle.om_commands.specs.LexicalExtensions.{IsExtensionOfMap}
use Rattle.om_commands.specs.LexicalExtensions as extension
use Rattle.om_words.specs.Tasks.{elements_of}
use Rattle.om_words.proofs.LeadingLaws.{few_entries}

-- ---- no element is above n

entries_within : (k n : ℕ) (list : List Signed) → AreEntries k list → first_above n (elements_of list) ≡ None
    → AreEntries n list
entries_within k n [] entries none = tt
entries_within k n (x ∷ xs) entries none = elim (cases_lt n x.element) [
  | inl lt ↦ absurd (none-some x.element (sym (rw (lt-ltb n x.element lt) at none)))
  | inr ge ↦ (entries.0, ge, entries_within k n xs entries.2 (rw (le-ltb n x.element ge) at none))
]

-- a list of elements with signs for k elements is one for n, if none of its elements is above n
pub listed_within : (k n : ℕ) (list : List Signed) → IsLexicographicList k list
    → first_above n (elements_of list) ≡ None → IsLexicographicList n list
listed_within k n list listed none =
    let entries = entries_within k n list listed.entries none in
    record {
      some = listed.some;
      few = few_entries n list entries listed.different;
      entries = entries;
      different =
          listed.different;
      signed = listed.signed;
    }

-- ---- the first listed element above n

element_at : (k : ℕ) (list : List Signed) (d : Signed) → k < length list
    → get_or (elements_of list) k 0 ≡ (get_or list k d).element
element_at k [] d l = absurd (omega (arith, l))
element_at zero (x ∷ xs) d l = refl
element_at (suc k) (x ∷ xs) d l = element_at k xs d (omega (arith, l))

pub not_above : (n k : ℕ) (list : List Signed) (d : Signed) → k < length list → (get_or list k d).element ≤ n
    → get_or (elements_of list) k 0 ≤ n
not_above n k list d l low = subst (λ e. e ≤ n) (sym (element_at k list d l)) low

pub element_found : (n k : ℕ) (list : List Signed) (d : Signed) → k < length list
    → ((j : ℕ) → j < k → get_or (elements_of list) j 0 ≤ n) → n < (get_or list k d).element
    → Some (get_or list k d).element ≡ first_above n (elements_of list)
element_found n k [] d l before above = absurd (omega (arith, l))
element_found n zero (x ∷ xs) d l before above = rw (lt-ltb n x.element above) refl
element_found n (suc k) (x ∷ xs) d l before above =
    let low : x.element ≤ n = before 0 (omega arith) in
    rw (le-ltb n x.element low)
    (element_found n k xs d (omega (arith, l)) (λ j h. before (suc j) (omega (arith, h))) above)

pub none_found : (n k : ℕ) (list : List Signed) → length list ≤ k
    → ((j : ℕ) → j < k → get_or (elements_of list) j 0 ≤ n) → None ≡ first_above n (elements_of list)
none_found n k [] l before = refl
none_found n zero (x ∷ xs) l before = absurd (omega (arith, l))
none_found n (suc k) (x ∷ xs) l before =
    let low : x.element ≤ n = before 0 (omega arith) in
    rw (le-ltb n x.element low) (none_found n k xs (omega (arith, l)) (λ j h. before (suc j) (omega (arith, h))))

-- ---- why there is no extension, and where there is one

pub refused_values : (list : List Signed) (m : SignMap) (count : ℕ) (why : LexError) → why ≡ why_of.Values count
    → IsOverValues why ↔ ((m.elements < MAX_ELEMENTS) × (MAX_VALUES < choose (m.elements + 1) m.rank))
    → NamesNumber m why → IsExtensionOfMap list m (says (line.LimitValues count))
refused_values list m count (why_of.Full k) is values number = cc
refused_values list m count (why_of.Values k) is values number =
    let same : choose (m.elements + 1) m.rank ≡ count = cc in
    let over = values.0 tt in
    subst (λ j. IsExtensionOfMap list m (says (line.LimitValues j))) same (extension.limited over.1)
refused_values list m count why_of.Memory is values number = cc

-- there is no extension for want of memory, if there is room and there aren't too many values: for `memory_alone`
pub memory_is_cause : (elements : ℕ) (why : LexError) → IsFull why ↔ (elements ≡ MAX_ELEMENTS) → elements < MAX_ELEMENTS
    → ((count : ℕ) → why ≡ why_of.Values count → ⊥) → why ≡ why_of.Memory
memory_is_cause elements (why_of.Full n) full few other =
    let at_limit = full.0 tt in
    absurd (omega (arith, at_limit, few))
memory_is_cause elements (why_of.Values count) full few other = absurd (other count refl)
memory_is_cause elements why_of.Memory full few other = refl

-- a number that is at most MAX_ELEMENTS and isn't equal to it is below it
pub fewer_elements : (n : ℕ) → n ≤ MAX_ELEMENTS → (n ≡ MAX_ELEMENTS → ⊥) → n < MAX_ELEMENTS
fewer_elements n high other = omega (arith, high, other)

pub values_fit : (n r : ℕ) → n < MAX_ELEMENTS → ((n < MAX_ELEMENTS) × (MAX_VALUES < choose (n + 1) r) → ⊥)
    → choose (n + 1) r ≤ MAX_VALUES
values_fit n r few not = elim (cases_lt MAX_VALUES (choose (n + 1) r)) [
  | inl lt ↦ absurd (not (few, lt))
  | inr ge ↦ ge
]
