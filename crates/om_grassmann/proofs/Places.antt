-- The places of statements: frames by their digits, and the order of statements as the order of places.
--
-- Main results: same_frame, that places of one block have one frame; lawful_places and places_before, that the order is
-- that of the places; next_from and last_from, for the first statement from a place on; none_from and first_from_later,
-- where none stands up to a later place.
use Rattle.std.specs.Prelude.{ℕ, ◌≡◌, ◌+◌, ◌*◌, ◌<◌, ◌≤◌, ◌⊎◌, Option, Some, None, IfNone}
use Rattle.std.proofs.Common.{sym, ap, arith, inl, inr}
use Rattle.std.proofs.lemmas.Bool.{cases_lt}
use Rattle.om_chirotope.specs.Map.{SignMap}
use Rattle.om_grassmann.specs.declared.statement.Statement.{Statement}
use Rattle.om_grassmann.specs.declared.frame.Frame.{Frame}
use Rattle.om_grassmann.specs.Statements.{IsPlaced, AreTwo, IsLawful}
use Rattle.om_grassmann.specs.Order.{IsBefore, IsNext, IsLast}
use Rattle.om_grassmann.specs.Walk.{IsFrame, frame_place, frame_of, direction, place, HasNoneBetween, HasNoneFrom}
use Rattle.om_grassmann.specs.Walk.{IsFirstFrom}
use Rattle.om_grassmann.proofs.OrderLaws.{before_total}

-- a statement has the elements of a frame
pub record IsOn (f : Frame) (st : Statement) : Type 0 where
  pub a : st.a ≡ f.a
  pub b : st.b ≡ f.b
  pub c : st.c ≡ f.c
  pub d : st.d ≡ f.d
  pub e : st.e ≡ f.e

pub placed_on : (n : ℕ) (f : Frame) (s t : Statement) → IsOn f s → IsOn f t → IsPlaced n s → IsPlaced n t
placed_on n f s t hs ht p =
    let x = p.apart in
    record {
      a = record { low = omega arith; high = omega arith };
      b = omega arith;
      b_c = omega arith;
      c_d = omega arith;
      d_e = omega arith;
      e = omega arith;
      apart = record { b = omega arith; c = omega arith; d = omega arith; e = omega arith };
    }

pub direction-lt : (st : Statement) → AreTwo st.small st.big → direction st < 9
direction-lt st t = omega arith

one_block : (p q k l : ℕ) → k < 9 → q * 9 ≤ p * 9 + k → p * 9 + k < q * 9 + 9 → p ≡ q
one_block p q k l h a b = omega arith

same_digits : (n : ℕ) (f : Frame) (st : Statement) → n < 256 → IsFrame n f → IsPlaced n st
    → frame_place (frame_of st) ≡ frame_place f → IsOn f st
unfolding frame_place
same_digits n f st l hf hs q =
    record { a = omega arith; b = omega arith; c = omega arith; d = omega arith; e = omega arith }

pub same_frame : (n : ℕ) (f : Frame) (st : Statement) → n < 256 → IsFrame n f → IsPlaced n st → AreTwo st.small st.big
    → frame_place f * 9 ≤ place st → place st < frame_place f * 9 + 9 → IsOn f st
same_frame n f st l hf hs ht low high =
    same_digits n f st l hf hs
    (one_block (frame_place (frame_of st)) (frame_place f) (direction st) 0 (direction-lt st ht) low high)

-- ---- the order

pub before-place : (n : ℕ) (s t : Statement) → n < 256 → IsPlaced n s → IsPlaced n t → AreTwo s.small s.big
    → AreTwo t.small t.big → IsBefore s t → place s < place t
unfolding frame_place
before-place n s t l ps pt ts tt_ (inl h) = omega arith
before-place n s t l ps pt ts tt_ (inr (qa, inl h)) = omega arith
before-place n s t l ps pt ts tt_ (inr (qa, inr (qb, inl h))) = omega arith
before-place n s t l ps pt ts tt_ (inr (qa, inr (qb, inr (qc, inl h)))) = omega arith
before-place n s t l ps pt ts tt_ (inr (qa, inr (qb, inr (qc, inr (qd, inl h))))) = omega arith
before-place n s t l ps pt ts tt_ (inr (qa, inr (qb, inr (qc, inr (qd, inr (qe, inl h)))))) = omega arith
before-place n s t l ps pt ts tt_ (inr (qa, inr (qb, inr (qc, inr (qd, inr (qe, inr (qi, inl h))))))) = omega arith
before-place n s t l ps pt ts tt_ (inr (qa, inr (qb, inr (qc, inr (qd, inr (qe, inr (qi, inr h))))))) = absurd h.1

-- a lawful statement that comes before another has the smaller place
pub lawful_places : (m : SignMap) (s t : Statement) → m.elements < 256 → IsLawful m s → IsLawful m t → IsBefore s t
    → place s < place t
lawful_places m s t l hs ht b = before-place m.elements s t l hs.placed ht.placed hs.two ht.two b

-- of two lawful statements on fewer than 256 elements the one with the smaller place comes before
pub places_before : (m : SignMap) (s t : Statement) → m.elements < 256 → IsLawful m s → IsLawful m t → place s < place t
    → IsBefore s t
places_before m s t l hs ht p = elim (before_total m s t hs ht) [
  | inl b ↦ b
  | inr (inl e) ↦ let q : place s ≡ place t = ap place e in absurd (omega arith)
  | inr (inr b) ↦ let q = lawful_places m t s l ht hs b in absurd (omega arith)
]

at_most : (m : SignMap) (s u : Statement) → m.elements < 256 → IsLawful m s → IsLawful m u → place u ≤ place s → (u ≡ s)
    ⊎ IsBefore u s
at_most m s u l hs hu p = elim (before_total m s u hs hu) [
  | inl b ↦ let q = lawful_places m s u l hs hu b in absurd (omega arith)
  | inr (inl e) ↦ inl (sym e)
  | inr (inr b) ↦ inr b
]

-- the first statement after the place of s is the next
pub next_from : (m : SignMap) (low : ℕ) (s t : Statement) → m.elements < 256 → low ≡ place s + 1 → IsLawful m s
    → IsFirstFrom m low t → IsNext m s t
next_from m low s t l e hs h =
    let from = h.from in
    record {
      lawful = h.lawful;
      later = places_before m s t l hs h.lawful (omega arith);
      next = λ u hu b.
          let p = lawful_places m u t l hu h.lawful b in
          elim (cases_lt (place u) low) [
            | inl lt ↦ at_most m s u l hs hu (omega arith)
            | inr ge ↦ let q = h.first u hu ge in absurd (omega arith)
          ];
    }

pub last_from : (m : SignMap) (low : ℕ) (s : Statement) → m.elements < 256 → low ≡ place s + 1 → IsLawful m s
    → HasNoneFrom m low → IsLast m s
last_from m low s l e hs h = λ u hu. let p = h u hu in at_most m s u l hs hu (omega arith)

-- ---- where none stands up to a later place

pub none_from : (m : SignMap) (low high : ℕ) (r : Option Statement) → HasNoneBetween m low high
    → IfNone r (HasNoneFrom m high) → IfNone r (HasNoneFrom m low)
none_from m low high (Some t) between none = tt
none_from m low high None between none = λ u hu.
    elim (cases_lt (place u) low) [
      | inl lt ↦ lt
      | inr ge ↦ let x = between u hu ge in let y = none u hu in absurd (omega arith)
    ]

pub first_from_later : (m : SignMap) (low high : ℕ) (t : Statement) → low ≤ high → HasNoneBetween m low high
    → IsFirstFrom m high t → IsFirstFrom m low t
first_from_later m low high t le between h =
    let from = h.from in
    record { lawful = h.lawful; from = omega arith; first = λ u hu ge. h.first u hu (between u hu ge) }
