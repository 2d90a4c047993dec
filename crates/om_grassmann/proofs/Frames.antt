-- The lawful statements of one frame.
--
-- Main results: none_placed, for a frame that has none; told_terms, what a lawful statement tells of its terms;
-- none_here and first_here, for the statement of one direction.
use Rattle.std.specs.Prelude.{ℕ, ◌≡◌, ◌≢◌, ◌+◌, ◌-◌, ◌*◌, ◌/◌, ◌%◌, ◌<◌, ◌≤◌, Bool, true, false, cond, Some, None}
use Rattle.std.proofs.Common.{refl, sym, ◌∙◌, ap, arith, inl, inr}
use Rattle.std.proofs.lemmas.Bool.{cases_lt, cases_eq, eq-eqb, ne_eqb}
use Rattle.om_signs.specs.declared.sign.Sign.{Sign}
use Rattle.om_signs.specs.declared.sign.Sign.TheVariants.{Zero, Plus}
use Rattle.om_signs.specs.Sign.{product}
use Rattle.om_signs.proofs.SignLaws.{product-opposite_right, product-zero, product_nonzero, product_twice}
use Rattle.om_signs.proofs.SignLaws.{product_square, product_minus_if_opposite, opposite_swap}
use Rattle.om_chirotope.specs.Map.{SignMap}
use Rattle.om_grassmann.specs.declared.statement.Statement.{Statement}
use Rattle.om_grassmann.specs.declared.frame.Frame.{Frame}
use Rattle.om_grassmann.specs.declared.terms.Terms.{Terms}
use Rattle.om_grassmann.specs.Terms.{first_term, second_term, third_term, term, term_of, pick, third, told}
use Rattle.om_grassmann.specs.Statements.{IsElement, IsPlaced, AreTwo, HasSigns, IsLawful}
use Rattle.om_grassmann.specs.Walk.{IsFrame, frame_place, frame_of, direction, place, HasNoneBetween, IsFirstFrom}
use Rattle.om_grassmann.specs.Walk.{AreTermsOn, IsKind, statement_of}
use Rattle.om_grassmann.proofs.Places.{IsOn, placed_on, same_frame, direction-lt}

pub on_frame : (f : Frame) (k : ℕ) (strict : Bool) (st : Statement) → st ≡ statement_of f k strict → IsOn f st
on_frame f k strict st q = record {
  a = ap (λ (s : Statement). s.a) q;
  b = ap (λ (s : Statement). s.b) q;
  c = ap (λ (s : Statement). s.c) q;
  d = ap (λ (s : Statement). s.d) q;
  e = ap (λ (s : Statement). s.e) q;
}

pub none_placed : (m : SignMap) (f : Frame) (s : Statement) (low : ℕ) → m.elements < 256 → IsFrame m.elements f
    → IsOn f s → (IsPlaced m.elements s → ⊥) → frame_place f * 9 ≤ low → HasNoneBetween m low (frame_place f * 9 + 9)
none_placed m f s low l hf on n h = λ u hu from.
    elim (cases_lt (place u) (frame_place f * 9 + 9)) [
      | inl lt ↦
          absurd (n
          (placed_on m.elements f u s (same_frame m.elements f u l hf hu.placed hu.two (omega arith) lt) on hu.placed))
      | inr ge ↦ ge
    ]

-- ---- signs up to a common factor

signs_as : (strict : Bool) (s t u x y z : Sign) → s ≡ x → t ≡ y → u ≡ z → HasSigns strict s t u → HasSigns strict x y z
signs_as strict s t u x y z a b c h = record {
  nonzero = λ q. h.nonzero (a ∙ q);
  opposed = rw (← a, ← c) h.opposed;
  rest = rw (← a, ← b) h.rest;
}

pick_product : (s x y z : Sign) (j : ℕ) → pick j (product s x) (product s y) (product s z) ≡ product s (pick j x y z)
pick_product s x y z j = elim (cases_eq j 1) [
  | inl q ↦ rw (eq-eqb j 1 q) refl
  | inr n ↦ rw (ne_eqb j 1 n) (elim (cases_eq j 2) [ inl q ↦ rw (eq-eqb j 2 q) refl | inr k ↦ rw (ne_eqb j 2 k) refl ])
]

rest_with : (strict : Bool) (s x y : Sign) → y ≡ cond strict x Zero → product s y ≡ cond strict (product s x) Zero
rest_with true s x y q = ap (product s) q
rest_with false s x y q = ap (product s) q ∙ product-zero s

signs_with : (strict : Bool) (s x y z : Sign) → s ≢ Zero → HasSigns strict x y z
    → HasSigns strict (product s x) (product s y) (product s z)
signs_with strict s x y z n h = record {
  nonzero = product_nonzero s x n h.nonzero;
  opposed = ap (product s) h.opposed ∙ product-opposite_right s x;
  rest = rest_with strict s x y h.rest;
}

signs_without : (strict : Bool) (s x y z : Sign) → s ≢ Zero → HasSigns strict (product s x) (product s y) (product s z)
    → HasSigns strict x y z
signs_without strict s x y z n h =
    signs_as strict _ _ _ x y z (product_twice s x n) (product_twice s y n) (product_twice s z n)
    (signs_with strict s (product s x) (product s y) (product s z) n h)

beside : (strict : Bool) (x y : Sign) → x ≢ Zero → y ≡ cond strict x Zero → product x y ≡ cond strict Plus Zero
beside true x y n q = ap (product x) q ∙ product_square x n
beside false x y n q = ap (product x) q ∙ product-zero x

told_term : (m : SignMap) (st : Statement) (i : ℕ) → IsLawful m st → IsElement 3 i
    → told st i ≡ product (term m st st.small) (term m st i)
told_term m st i h e = elim (cases_eq i st.small) [
  | inl q ↦
      rw (eq-eqb i st.small q) (sym (product_square (term m st st.small) h.signs.nonzero)
      ∙ ap (λ j. product (term m st st.small) (term m st j)) (sym q))
  | inr n ↦ rw (ne_eqb i st.small n) (elim (cases_eq i st.big) [
    | inl q ↦
        rw (eq-eqb i st.big q) (sym (product_minus_if_opposite (term m st st.small) (term m st st.big) h.signs.nonzero
        (opposite_swap (term m st st.big) (term m st st.small) h.signs.opposed))
        ∙ ap (λ j. product (term m st st.small) (term m st j)) (sym q))
    | inr k ↦
        let two = h.two in
        let q : third st.small st.big ≡ i = omega arith in
        rw (ne_eqb i st.big k)
        (sym (beside st.strict (term m st st.small) (term m st (third st.small st.big)) h.signs.nonzero
        h.signs.rest) ∙ ap (λ j. product (term m st st.small) (term m st j)) q)
  ])
]

-- what a lawful statement tells
pub told_terms : (m : SignMap) (f : Frame) (st : Statement) (terms : Terms) → m.elements < 256 → IsLawful m st
    → f ≡ frame_of st → terms.first ≡ told st 1 → terms.second ≡ told st 2 → terms.third ≡ told st 3
    → AreTermsOn m f terms
told_terms m f st terms l h q first second third = record {
  rank = h.rank;
  few = l;
  st = st;
  on = sym q;
  placed = h.placed;
  factor = term m st st.small;
  nonzero = h.signs.nonzero;
  first = first ∙ told_term m st 1 h (record { low = omega arith; high = omega arith });
  second = second ∙ told_term m st 2 h (record { low = omega arith; high = omega arith });
  third = third ∙ told_term m st 3 h (record { low = omega arith; high = omega arith });
}

-- ---- terms on a frame

elements_on : (f : Frame) (st : Statement) → frame_of st ≡ f → IsOn f st
elements_on f st q = record {
  a = ap (λ (g : Frame). g.a) q;
  b = ap (λ (g : Frame). g.b) q;
  c = ap (λ (g : Frame). g.c) q;
  d = ap (λ (g : Frame). g.d) q;
  e = ap (λ (g : Frame). g.e) q;
}

frame_at : (m : SignMap) (f : Frame) (terms : Terms) → AreTermsOn m f terms → IsFrame m.elements f
frame_at m f terms h =
    let on = elements_on f h.st h.on in
    let p = h.placed in
    record {
      a = record { low = omega arith; high = omega arith };
      b = omega arith;
      b_c = omega arith;
      c_d =
          omega arith;
      d_e = omega arith;
      e = omega arith;
    }

same_terms : (m : SignMap) (s u : Statement) (i : ℕ) → s.a ≡ u.a → s.b ≡ u.b → s.c ≡ u.c → s.d ≡ u.d → s.e ≡ u.e
    → term m s i ≡ term m u i
same_terms m s u i a b c d e = rw (a, b, c, d, e) refl

term_on : (m : SignMap) (f : Frame) (terms : Terms) (u : Statement) (i j : ℕ) → (h : AreTermsOn m f terms) → IsOn f u
    → i ≡ j → term_of terms i ≡ product h.factor (term m u j)
term_on m f terms u i j h on e =
    let here = elements_on f h.st h.on in
    let same = same_terms m h.st u j (here.a ∙ sym on.a) (here.b ∙ sym on.b) (here.c ∙ sym on.c) (here.d ∙ sym on.d)
    (here.e ∙ sym on.e) in
    rw (h.first, h.second, h.third, e)
    (pick_product h.factor (first_term m h.st) (second_term m h.st) (third_term m h.st) j
    ∙ ap (product h.factor) same)

two_as : (i j k l : ℕ) → i ≡ k → j ≡ l → AreTwo i j → AreTwo k l
two_as i j k l a b h = rw (← a, ← b) h

-- the directions in numbers
from_direction : (i j k : ℕ) → AreTwo i j → 3 * (i - 1) + (j - 1) ≡ k → (i ≡ k / 3 + 1) × (j ≡ k % 3 + 1)
from_direction i j k h e = (omega arith, omega arith)

block_place : (p q k l : ℕ) → k < 9 → l < 9 → p * 9 + k ≡ q * 9 + l → k ≡ l
block_place p q k l a b e = omega arith

pub none_here : (m : SignMap) (f : Frame) (terms : Terms) (low k : ℕ) → AreTermsOn m f terms → k < 9
    → IsKind terms (k / 3 + 1) (k % 3 + 1) None → HasNoneBetween m low (frame_place f * 9 + k)
    → HasNoneBetween m low (frame_place f * 9 + (k + 1))
none_here m f terms low k ht lt kind before = λ u hu from.
    elim (cases_eq (place u) (frame_place f * 9 + k)) [
      | inl q ↦ absurd (refused u hu q)
      | inr n ↦ let b = before u hu from in omega arith
    ]
  where
    refused : (u : Statement) → IsLawful m u → place u ≡ frame_place f * 9 + k → ⊥
    refused u hu q =
        let on = same_frame m.elements f u ht.few (frame_at m f terms ht) hu.placed hu.two (omega arith) (omega arith)
        in
        let d = from_direction u.small u.big k hu.two
        (block_place (frame_place (frame_of u)) (frame_place f) (direction u) k (direction-lt u hu.two) lt q) in
        let e : third u.small u.big ≡ third (k / 3 + 1) (k % 3 + 1) = rw (d.0, d.1) refl in
        kind u.strict (two_as u.small u.big (k / 3 + 1) (k % 3 + 1) d.0 d.1 hu.two)
        (signs_as u.strict _ _ _ _ _ _
        (sym (term_on m f terms u (k / 3 + 1) u.small ht on (sym d.0)))
        (sym (term_on m f terms u (third (k / 3 + 1) (k % 3 + 1)) (third u.small u.big) ht on (sym e)))
        (sym (term_on m f terms u (k % 3 + 1) u.big ht on (sym d.1)))
        (signs_with u.strict ht.factor _ _ _ ht.nonzero hu.signs))

pub first_here : (m : SignMap) (f : Frame) (terms : Terms) (low k : ℕ) (strict : Bool) → AreTermsOn m f terms → k < 9
    → low ≤ frame_place f * 9 + k → IsKind terms (k / 3 + 1) (k % 3 + 1) (Some strict)
    → HasNoneBetween m low (frame_place f * 9 + k) → IsFirstFrom m low (statement_of f k strict)
first_here m f terms low k strict ht lt from kind before =
    let st : Statement = statement_of f k strict in
    let on : IsOn f st = on_frame f k strict st refl in
    let here : place st ≡ frame_place f * 9 + k = in_block (frame_place f) k lt in
    record {
      lawful = record {
        rank = ht.rank;
        placed = placed_on m.elements f ht.st st (elements_on f ht.st ht.on) on ht.placed;
        two = kind.0;
        signs = signs_without strict ht.factor _ _ _ ht.nonzero (signs_as strict _ _ _ _ _ _
            (term_on m f terms st (k / 3 + 1) (k / 3 + 1) ht on refl)
            (term_on m f terms st (third (k / 3 + 1) (k % 3 + 1)) (third (k / 3 + 1) (k % 3 + 1)) ht on refl)
            (term_on m f terms st (k % 3 + 1) (k % 3 + 1) ht on refl)
            kind.1);
      };
      from = rw here from;
      first = rw here before;
    }
  where
    in_block : (p k : ℕ) → k < 9 → p * 9 + (3 * (k / 3 + 1 - 1) + (k % 3 + 1 - 1)) ≡ p * 9 + k
    in_block p k lt = omega arith
