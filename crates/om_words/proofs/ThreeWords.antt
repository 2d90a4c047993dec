-- The word at a place, and the words of three elements.
--
-- Main definitions: IsOkAt
-- Main results: there, this_within, at_place_read, at_place_bad, same_there
use Rattle.std.specs.Prelude.{ℕ, ◌≡◌, ◌<◌, ◌≤◌, ◌+◌, ◌-◌, ◌↔◌, List, [], ◌∷◌, length, map, Option, Some, None, Result}
use Rattle.std.specs.Prelude.{Ok, Err, slice_get, refl}
use Rattle.std.specs.Fmt.{decimal}
use Rattle.std.proofs.Common.{get_or, zero, suc, arith, ap, subst, sym, ◌∙◌, lit≤}
use Rattle.std.proofs.lemmas.Option.{same_Some}
use Rattle.om_signs.specs.declared.limits.TheConstants.{MAX_ELEMENTS}
use Rattle.om_lines.specs.Lines.{Begins}
use Rattle.om_printing.specs.declared.usage.Usage.{Usage}
use Rattle.om_words.specs.Words.{IsElement, HasValue}
use Rattle.om_words.specs.Triples.{AreTriple, IsElementWithin, IsElementAt}
use Rattle.om_words.proofs.ArgumentLaws.{no_value, none_some}
use Rattle.om_words.proofs.ElementNumbers.{one_element}

-- ---- the word at a place

pub there : {X : Type 0} (f : X → List ℕ) (xs : List X) (k : ℕ) (x : X) → k < length xs → x ≡ get_or xs k x
    → slice_get (map f xs) k ≡ Some (f x)
there f [] k x l is = absurd (omega arith)
there f (y ∷ ys) zero x l is = ap (λ z. Some (f z)) (sym is)
there f (y ∷ ys) (suc k) x l is = there f ys k x (omega arith) is

pub this_within : (word : List ℕ) (low high e : ℕ) → IsElement word e → low ≤ e → e ≤ high → (d : ℕ) → (Some e ≡ Some d)
    ↔ IsElementWithin word low high d
this_within word low high e element above below d = (
  λ same. let one : e ≡ d = same_Some _ _ same in
      subst (IsElementWithin word low high) one (record { element = element; above = above; below = below }),
  λ other. ap Some (one_element word e d element other.element),
)

-- the result is this element exactly where it stands at the place
abbrev pub IsOkAt : List (List ℕ) → ℕ → ℕ → ℕ → Result ℕ Usage → ℕ → Type 0
IsOkAt words k low high result e = (result ≡ Ok e) ↔ IsElementAt words k low high e

at_place : {X : Type 0} (f : X → List ℕ) (xs : List X) (k low high : ℕ) (x : X) (o : Option ℕ) → k < length xs
    → x ≡ get_or xs k x → ((e : ℕ) → (o ≡ Some e) ↔ IsElementWithin (f x) low high e) → (e : ℕ) → (o ≡ Some e)
    ↔ IsElementAt (map f xs) k low high e
at_place f xs k low high x o l is within e = (
  λ same. record { word = f x; there = there f xs k x l is; within = (within e).0 same },
  λ other.
      let word : f x ≡ other.word = same_Some _ _ (sym (there f xs k x l is) ∙ other.there) in
      (within e).1 (subst (λ w. IsElementWithin w low high e) (sym word) other.within),
)

pub at_place_read : {X : Type 0} (f : X → List ℕ) (xs : List X) (k low high e : ℕ) (x : X) (o : Option ℕ)
    → k < length xs → x ≡ get_or xs k x → ((d : ℕ) → (o ≡ Some d) ↔ IsElementWithin (f x) low high d) → o ≡ Some e
    → (d : ℕ) → IsOkAt (map f xs) k low high (Ok e) d
at_place_read f xs k low high e x o l is within some d = (
  λ same. let one : e ≡ d = cc in (at_place f xs k low high x o l is within d).0 (some ∙ ap Some one),
  λ other. let one : e ≡ d = same_Some _ _ (sym some ∙ (at_place f xs k low high x o l is within d).1 other) in
      ap Ok one,
)

pub at_place_bad : {X : Type 0} (f : X → List ℕ) (xs : List X) (k low high : ℕ) (x : X) (o : Option ℕ) (u : Usage)
    → k < length xs → x ≡ get_or xs k x → ((d : ℕ) → (o ≡ Some d) ↔ IsElementWithin (f x) low high d) → o ≡ None
    → (d : ℕ) → IsOkAt (map f xs) k low high (Err u) d
at_place_bad f xs k low high x o u l is within none d = (
  λ made. absurd (no_value _ d made),
  λ other. absurd (none_some d none ((at_place f xs k low high x o l is within d).1 other)),
)

-- ---- the words of three elements

within_of : (e low high : ℕ) → 1 ≤ e → e ≤ MAX_ELEMENTS → low ≤ e → e ≤ high → IsElementWithin (decimal e) low high e
within_of e low high one most above below =
    record { element = record { low = one; high = most; digits = refl }; above = above; below = below }

pub first_of_three : (words : List (List ℕ)) (t : ℕ × ℕ × ℕ) → AreTriple words t
    → IsElementAt words 0 1 (MAX_ELEMENTS - 2) t.0
first_of_three words t h = subst (λ ws. IsElementAt ws 0 1 (MAX_ELEMENTS - 2) t.0) (sym h.digits) (record {
  word = decimal t.0;
  there = refl;
  within = let a = h.low in let b = h.first in let c = h.second in let d = h.high in
      within_of t.0 1 (MAX_ELEMENTS - 2) a (omega (arith, b, c, d)) a (omega (arith, b, c, d));
})

pub second_of_three : (words : List (List ℕ)) (t : ℕ × ℕ × ℕ) → AreTriple words t
    → IsElementAt words 1 (t.0 + 1) (MAX_ELEMENTS - 1) t.1
second_of_three words t h = subst (λ ws. IsElementAt ws 1 (t.0 + 1) (MAX_ELEMENTS - 1) t.1) (sym h.digits) (record {
  word = decimal t.1;
  there = refl;
  within = let a = h.low in let b = h.first in let c = h.second in let d = h.high in
      within_of t.1 (t.0 + 1) (MAX_ELEMENTS - 1) (omega (arith, a, b)) (omega (arith, c, d)) (omega (arith, b))
      (omega (arith, c, d));
})

pub third_of_three : (words : List (List ℕ)) (t : ℕ × ℕ × ℕ) → AreTriple words t
    → IsElementAt words 2 (t.1 + 1) MAX_ELEMENTS t.2
third_of_three words t h = subst (λ ws. IsElementAt ws 2 (t.1 + 1) MAX_ELEMENTS t.2) (sym h.digits) (record {
  word = decimal t.2;
  there = refl;
  within = let a = h.low in let b = h.first in let c = h.second in let d = h.high in
      within_of t.2 (t.1 + 1) MAX_ELEMENTS (omega (arith, a, b, c)) d (omega (arith, c)) d;
})

-- the word at a place, where it is there
pub same_there : (words : List (List ℕ)) (k low high e : ℕ) (word : List ℕ) → slice_get words k ≡ Some word
    → IsElementAt words k low high e → IsElementWithin word low high e
same_there words k low high e word is at =
    subst (λ w. IsElementWithin w low high e) (same_Some _ _ (sym at.there ∙ is)) at.within

pub three : (u v w : List ℕ) (a b c : ℕ) → IsElement u a → IsElement v b → IsElement w c → a < b → b < c
    → AreTriple (u ∷ v ∷ w ∷ []) (a, b, c)
three u v w a b c p q r first second = record {
  low = p.low;
  first = first;
  second = second;
  high = r.high;
  digits = rw (p.digits, q.digits, r.digits) refl;
}

next_to : (e : ℕ) → 1 ≤ e → e ≤ MAX_ELEMENTS → IsElement (decimal e) e
next_to e low high = record { low = low; high = high; digits = refl }

pub begin_none : Begins (HasValue AreTriple) []
begin_none = (
  decimal 1 ∷ decimal 2 ∷ decimal 3 ∷ [],
  (
    (1, 2, 3),
    three (decimal 1) (decimal 2) (decimal 3) 1 2 3 (next_to 1 (lit≤ tt) (lit≤ tt))
        (next_to 2 (lit≤ tt) (lit≤ tt)) (next_to 3 (lit≤ tt) (lit≤ tt)) (lit≤ tt) (lit≤ tt),
  ),
)

pub begin_one : (u : List ℕ) (a : ℕ) → IsElementWithin u 1 (MAX_ELEMENTS - 2) a → Begins (HasValue AreTriple) (u ∷ [])
begin_one u a h =
    let low : a ≤ MAX_ELEMENTS - 2 = h.below in (
      decimal (a + 1) ∷ decimal (a + 2) ∷ [],
      (
        (a, a + 1, a + 2),
        three u (decimal (a + 1)) (decimal (a + 2)) a (a + 1) (a + 2) h.element
            (next_to (a + 1) (omega arith) (omega (arith, low))) (next_to (a + 2) (omega arith) (omega (arith, low)))
            (omega arith) (omega arith),
      ),
    )

pub begin_two : (u v : List ℕ) (a b : ℕ) → IsElement u a → IsElementWithin v (a + 1) (MAX_ELEMENTS - 1) b
    → Begins (HasValue AreTriple) (u ∷ v ∷ [])
begin_two u v a b p h =
    let low : b ≤ MAX_ELEMENTS - 1 = h.below in
    let above : a + 1 ≤ b = h.above in (
      decimal (b + 1) ∷ [],
      (
        (a, b, b + 1),
        three u v (decimal (b + 1)) a b (b + 1) p h.element
            (next_to (b + 1) (omega arith) (omega (arith, low))) (omega (arith, above)) (omega arith),
      ),
    )
