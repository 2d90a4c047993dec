-- Words that are the numbers of increasing elements: the words that a loop has taken, a word at fault behind them, and
-- their end.
--
-- Main definitions: AreTaken
-- Main results: taken_none, taken_more, taken_fault, taken_empty, taken_end, length-words, length-words_end, no_members
use Rattle.std.specs.Prelude.{ℕ, ◌≡◌, ◌<◌, ◌≤◌, ◌+◌, ◌⊎◌, length, map, List, [], ◌∷◌, ◌++◌, refl, suc, Ok, Err}
use native.Mathlib.Numerals.{unary_clauses}
use Rattle.std.specs.Fmt.{decimal}
use Rattle.std.proofs.Common.{zero, get_or, drop, take, arith, ap, subst, sym, ◌∙◌, inl, inr, append-nil, lit≤}
use Rattle.std.proofs.Common.{append_assoc}
use Rattle.std.proofs.lemmas.List.{map-append, length-map, length-take-le, take_all}
use Rattle.om_signs.specs.declared.limits.TheConstants.{MAX_ELEMENTS}
use Rattle.om_subsets.specs.Subsets.{IsMember, with_element}
use Rattle.om_subsets.specs.Lists.{IsIncreasing}
use Rattle.om_subsets.specs.Members.{members, mask_of}
use Rattle.om_subsets.proofs.Places.{members-zero}
use Rattle.om_lines.specs.Lines.{Begins}
use Rattle.om_words.specs.Words.{IsElement, AreElements, IsFault, at_word, at_end, HasValue, IsRead}
use Rattle.om_words.proofs.ArgumentLaws.{no_value}
use Rattle.om_words.proofs.FitLaws.{around}
use Rattle.om_words.proofs.ElementNumbers.{last_of, appended, increasing_more, last_more, below_next, is_empty}
use Rattle.om_words.proofs.ElementNumbers.{has_some, AreIncreasing, subset_increasing, increasing_subset, same_numbers}
use Rattle.om_words.proofs.ElementNumbers.{GoesOn, goes_on}

-- ---- the words that a loop has taken

pub record AreTaken (words : List (List ℕ)) (k greatest place : ℕ) (xs : List ℕ) : Type 0 where
  pub digits : take k words ≡ map decimal xs
  pub elements : AreIncreasing xs
  pub last : greatest ≡ last_of 0 xs
  pub count : place ≡ k + 1
  pub few : k ≤ greatest
  pub high : greatest ≤ MAX_ELEMENTS

pub taken_none : (words : List (List ℕ)) (xs : List ℕ) → xs ≡ [] → AreTaken words 0 0 1 xs
unfolding last_of
taken_none words xs none = rw none (record {
  digits = refl;
  elements = record { increasing = tt; within = λ e m. absurd m };
  last = refl;
  count = refl;
  few = omega arith;
  high = omega arith;
})

take_next : {X : Type 0} (words : List X) (k : ℕ) (word : X) → k < length words → get_or words k word ≡ word
    → take (k + 1) words ≡ take k words ++ word ∷ []
take_next [] k word l same = absurd (omega arith)
take_next (w ∷ ws) zero word l same = ap (λ u. u ∷ []) same
take_next (w ∷ ws) (suc k) word l same =
    simp unary_clauses (ap (λ u. w ∷ u) (simp unary_clauses at (take_next ws k word (omega arith) same)))

member_more : (e f : ℕ) (xs : List ℕ) → IsMember f (xs ++ e ∷ []) → (f ≡ e) ⊎ IsMember f xs
member_more e f [] (inl same) = inl same
member_more e f [] (inr m) = absurd m
member_more e f (x ∷ xs) (inl same) = inr (inl same)
member_more e f (x ∷ xs) (inr m) = elim (member_more e f xs m) [
  | inl same ↦ inl same
  | inr n ↦ inr (inr n)
]

pub taken_more : (words : List (List ℕ)) (k last place e : ℕ) (word : List ℕ) (xs : List ℕ)
    → AreTaken words k last place xs → k < length words → get_or words k word ≡ word → IsElement word e → last < e
    → AreTaken words (k + 1) e (place + 1) (with_element e xs)
taken_more words k last place e word xs taken l same element above =
    let bound : last_of 0 xs < e = subst (λ d. d < e) taken.last above in
    rw (appended 0 e xs taken.elements.increasing bound) (record {
      digits = take_next words k word l same ∙ ap (λ u. u ++ word ∷ []) taken.digits
          ∙ ap (λ u. map decimal xs ++ u ∷ []) element.digits ∙ sym (map-append decimal xs (e ∷ []));
      elements = record {
        increasing = increasing_more 0 e xs taken.elements.increasing bound;
        within = λ f m. elim (member_more e f xs m) [
          | inl q ↦ let h = element.high in omega (arith, q, h)
          | inr n ↦ taken.elements.within f n
        ];
      };
      last = sym (last_more 0 e xs);
      count = let p = taken.count in omega (arith, p);
      few = let f = taken.few in omega (arith, f, above);
      high = element.high;
    })

-- ---- words at fault

one_begins : HasValue AreElements (decimal 1 ∷ [])
one_begins = (
  mask_of 1 (1 ∷ []) MAX_ELEMENTS,
  record {
    elements = 1 ∷ [];
    some = omega arith;
    increasing = increasing_subset (1 ∷ []) (record { increasing = (lit≤ tt, tt); within = λ e m. one_high e m });
    digits = refl;
    value = refl;
  },
)
  where
    one_high : (e : ℕ) → IsMember e (1 ∷ []) → e ≤ MAX_ELEMENTS
    one_high e (inl same) = rw same (lit≤ tt)
    one_high e (inr m) = absurd m

taken_begin : (xs : List ℕ) → AreIncreasing xs → Begins (HasValue AreElements) (map decimal xs)
taken_begin [] h = (decimal 1 ∷ [], one_begins)
taken_begin (x ∷ xs) h = (
  [],
  (
    mask_of 1 (x ∷ xs) MAX_ELEMENTS,
    record {
      elements = x ∷ xs;
      some = omega arith;
      increasing = increasing_subset (x ∷ xs) h;
      digits = append-nil (map decimal (x ∷ xs));
      value = refl;
    },
  ),
)

stops_at : (xs : List ℕ) (word : List ℕ) → AreIncreasing xs → ((e : ℕ) → IsElement word e → last_of 0 xs < e → ⊥)
    → Begins (HasValue AreElements) (map decimal xs ++ word ∷ []) → ⊥
stops_at xs word h none (more, (mask, all)) =
    let ys = subset_increasing all.elements all.increasing in
    let on : GoesOn xs all.elements word =
    goes_on xs all.elements word more h.within ys.within
    (sym (append_assoc (map decimal xs) (word ∷ []) more) ∙ all.digits) in
    let above : last_of 0 xs < on.next =
    below_next 0 on.next xs on.more (subst (λ u. IsIncreasing (0 ∷ u)) on.list ys.increasing) in
    none on.next (record { low = omega (arith, above); high = on.high; digits = on.digits }) above

pub taken_fault : (words : List (List ℕ)) (k last place : ℕ) (word : List ℕ) (xs : List ℕ)
    → AreTaken words k last place xs → k < length words → get_or words k word ≡ word
    → ((e : ℕ) → IsElement word e → last < e → ⊥) → IsRead AreElements words (Err (record { word = place + 1 }))
taken_fault words k last place word xs taken l same none =
    let stop : (e : ℕ) → IsElement word e → last_of 0 xs < e → ⊥ =
    λ e element above. none e element (subst (λ d. d < e) (sym taken.last) above) in
    let refused : Begins (HasValue AreElements) (take k words ++ word ∷ []) → ⊥ =
    subst (λ u. Begins (HasValue AreElements) (u ++ word ∷ []) → ⊥) (sym taken.digits)
    (stops_at xs word taken.elements stop) in
    let begins : Begins (HasValue AreElements) (take k words) =
    subst (Begins (HasValue AreElements)) (sym taken.digits) (taken_begin xs taken.elements) in
    let whole = ap (λ w. take k words ++ w ∷ drop (k + 1) words) (sym same) ∙ around words k word l in
    record {
      value = λ m. (
        λ made. absurd (no_value _ m made),
        λ all. absurd
            (refused (
              drop (k + 1) words,
              (
                m,
                subst (λ u. AreElements u m)
                    (sym whole ∙ sym (append_assoc (take k words) (word ∷ []) (drop (k + 1) words)))
                    all,
              ),
            )),
      );
      fault = (
        k + 1,
        (
          ap (λ p. p + 1) taken.count,
          subst (λ u. IsFault (HasValue AreElements) u (k + 1)) whole
              (subst (λ j. IsFault (HasValue AreElements) (take k words ++ word ∷ drop (k + 1) words) (j + 1))
              (length-take-le k words (omega arith)) (at_word (take k words) word (drop (k + 1) words) begins refused)),
        ),
      );
    }

pub taken_empty : (words : List (List ℕ)) (k last place : ℕ) (xs : List ℕ) → AreTaken words k last place xs
    → length words ≤ k → last ≡ 0 → IsRead AreElements words (Err (record { word = 2 }))
taken_empty words k last place xs taken l at_zero =
    let none : xs ≡ [] = is_empty xs taken.elements.increasing (sym taken.last ∙ at_zero) in
    let empty : words ≡ [] = sym (take_all k words l) ∙ taken.digits ∙ ap (map decimal) none in
    subst (λ u. IsRead AreElements u (Err (record { word = 2 }))) (sym empty) (record {
      value = λ m. (λ made. absurd (no_value _ m made), λ all. absurd (no_elements (m, all)));
      fault = (1, (refl, at_end [] (decimal 1 ∷ [], one_begins) no_elements));
    })
  where
    no_digits : (ys : List ℕ) → 1 ≤ length ys → [] ≡ map decimal ys → ⊥
    no_digits [] some same = omega (arith, some)
    no_digits (y ∷ ys) some same = cc

    no_elements : HasValue AreElements [] → ⊥
    no_elements (m, all) = no_digits all.elements all.some all.digits

pub taken_end : (words : List (List ℕ)) (k last place mask : ℕ) (xs : List ℕ) → AreTaken words k last place xs
    → length words ≤ k → (last ≡ 0 → ⊥) → mask ≡ mask_of 1 xs MAX_ELEMENTS → IsRead AreElements words (Ok mask)
taken_end words k last place mask xs taken l some is =
    let all : words ≡ map decimal xs = sym (take_all k words l) ∙ taken.digits in
    record {
      value = λ m. (
        λ made. let same : mask ≡ m = cc in record {
          elements = xs;
          some = has_some xs (λ none. some (taken.last ∙ none));
          increasing = increasing_subset xs taken.elements;
          digits = all;
          value = sym same ∙ is;
        },
        λ other.
            let ys = subset_increasing other.elements other.increasing in
            let same : xs ≡ other.elements =
            same_numbers xs other.elements taken.elements.within ys.within (sym all ∙ other.digits) in
            ap Ok (is ∙ ap (λ u. mask_of 1 u MAX_ELEMENTS) same ∙ sym other.value),
      );
      fault = tt;
    }

pub length-words : {X : Type 0} (f : X → List ℕ) (xs : List X) (k : ℕ) → k < length xs → k < length (map f xs)
length-words f xs k l = rw (length-map xs f) l

pub length-words_end : {X : Type 0} (f : X → List ℕ) (xs : List X) (k : ℕ) → length xs ≤ k → length (map f xs) ≤ k
length-words_end f xs k l = rw (length-map xs f) l

pub no_members : (m : ℕ) → members 0 1 m ≡ []
no_members m = members-zero 1 m
