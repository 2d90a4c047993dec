-- The walk of a search: what its word in hand is at each turn, and the next visited word.
--
-- Main definitions: IsWalk
-- Main results: last_more, vectors_more, word_more, length_placing, walk_candidates, walk_consistent, not_full,
-- walk_more, walk_stops
use Rattle.std.proofs.Common.{ℕ, ◌≡◌, ◌≢◌, ◌+◌, ◌-◌, ◌<◌, ◌≤◌, ◌↔◌, List, [], ◌∷◌, ◌++◌, length, take, drop, get_or}
use Rattle.std.proofs.Common.{map, inl, inr, arith, sym, ◌∙◌, ap, subst, Some}
use Rattle.std.specs.Prelude.{slice_get}
use Rattle.std.specs.List.{range_with_len}
use Rattle.std.proofs.lemmas.Option.{get_or_from_slice_get}
use Rattle.std.proofs.lemmas.Bool.{cases_eq}
use Rattle.std.proofs.lemmas.List.{take_more, take_all, length-take-le, length-drop, get_or-drop, get_or-append-add}
use Rattle.std.proofs.lemmas.List.FromFn.{map-range_with_len_more}
use Rattle.om_signs.specs.declared.sign.Sign.{Sign}
use Rattle.om_chirotope.specs.Map.{SignMap, chi_of}
use Rattle.om_vectors.specs.WholeVectors.{WholeVector, zero_vector}
use Rattle.om_points.specs.Candidates.{IsCandidate, IsLastCandidate}
use Rattle.om_points.specs.Starts.{Start, IsStart, order, placed, basis_vectors, IsConsistent}
use Rattle.om_points.specs.Words.{HasSteps, IsFull}
use Rattle.om_points.specs.Searches.{IsFrontier}
use Rattle.om_points.specs.ShortVectors.{AreWanted, Agrees}
use Rattle.om_points.proofs.Visits.{IsTurn, IsNextVisited, candidate_at, none_up_to, turn_more}
use Rattle.om_points.proofs.Places.{order_length}
use Rattle.om_points.proofs.Agreements.{consistent_longer, agrees_longer}

-- ---- small steps of loops

pub last_more : (box : ℕ) (vs : List WholeVector) (i : ℕ) (v : WholeVector) → 3 < i → slice_get vs (i - 1) ≡ Some v
    → IsLastCandidate box v → ((j : ℕ) → i ≤ j → j < length vs → IsLastCandidate box (get_or vs j zero_vector))
    → (j : ℕ) → i - 1 ≤ j → j < length vs → IsLastCandidate box (get_or vs j zero_vector)
last_more box vs i v t h l old j ge lt = elim (cases_eq j (i - 1)) [
  | inl e ↦
      subst (λ x. IsLastCandidate box x)
      (sym (ap (λ k. get_or vs k zero_vector) e ∙ get_or_from_slice_get vs (i - 1) v zero_vector h)) l
  | inr n ↦ old j (omega arith) lt
]

pub vectors_more : (f : ℕ → WholeVector) (w u : List WholeVector) (e : ℕ) (v : WholeVector) → 1 ≤ e
    → w ≡ map f (range_with_len 1 (e - 1)) → u ≡ w ++ v ∷ [] → v ≡ f e → u ≡ map f (range_with_len 1 (e + 1 - 1))
vectors_more f w u e v l h p q =
    let k : e + 1 - 1 ≡ e - 1 + 1 = omega arith in
    rw k (p ∙ ap (λ t. t ++ v ∷ []) h ∙ ap (λ t. map f (range_with_len 1 (e - 1)) ++ t ∷ []) q
    ∙ sym (map-range_with_len_more f 1 (e - 1) e (omega arith)))

pub word_more : (vs w u : List WholeVector) (i : ℕ) (v : WholeVector) → 3 ≤ i → i < length vs
    → w ≡ take (i - 3) (drop 3 vs) → u ≡ w ++ v ∷ [] → slice_get vs i ≡ Some v → u ≡ take (i + 1 - 3) (drop 3 vs)
word_more vs w u i v l lt h p q =
    let k : i + 1 - 3 ≡ i - 3 + 1 = omega arith in
    let j : 3 + (i - 3) ≡ i = omega arith in
    let d = length-drop 3 vs in
    let at : get_or (drop 3 vs) (i - 3) zero_vector ≡ v = get_or-drop 3 vs (i - 3) zero_vector
    ∙ ap (λ t. get_or vs t zero_vector) j ∙ get_or_from_slice_get vs i v zero_vector q in
    rw k (p ∙ ap (λ t. t ++ v ∷ []) h ∙ ap (λ t. take (i - 3) (drop 3 vs) ++ t ∷ []) (sym at)
    ∙ sym (take_more (drop 3 vs) (i - 3) zero_vector (omega arith)))

-- ---- the walk

-- the vectors in hand are those by the visited word with as many steps as turns, before which no full word is
-- consistent
pub record IsWalk (m : SignMap) (box steps step : ℕ) (placing : List WholeVector) (elements : List ℕ)
    (signs : List Sign) : Type 0 where
  pub start : Start
  pub word : List WholeVector
  pub is_start : IsStart m start
  pub some : 1 ≤ length start.free
  pub elements_are : elements ≡ order start
  pub wanted : AreWanted m elements signs
  pub placing_is : placing ≡ placed m start word
  pub turn : IsTurn box m start word step
  pub low : 1 ≤ step
  pub within : step ≤ steps

pub length_placing : (m : SignMap) (s : Start) (w p : List WholeVector) → p ≡ placed m s w → length p ≡ 3 + length w
length_placing m s w p e = ap length e ∙ (let z : length (placed m s w) ≡ 3 + length w = omega arith in z)

pub placing_at : (m : SignMap) (s : Start) (w p : List WholeVector) (i : ℕ) → p ≡ placed m s w → 3 ≤ i
    → get_or p i zero_vector ≡ get_or w (i - 3) zero_vector
placing_at m s w p i e l =
    let j : i ≡ 3 + (i - 3) = omega arith in
    ap (λ t. get_or t i zero_vector) e ∙ ap (λ k. get_or (placed m s w) k zero_vector) j
    ∙ get_or-append-add (basis_vectors (chi_of m s.basis)) w (i - 3) zero_vector

pub walk_candidates : (m : SignMap) (box steps step : ℕ) (p : List WholeVector) (es : List ℕ) (signs : List Sign)
    → IsWalk m box steps step p es signs → (i : ℕ) → 3 ≤ i → i < length p → IsCandidate box (get_or p i zero_vector)
walk_candidates m box steps step p es signs h i l lt =
    let n = length_placing m h.start h.word p h.placing_is in
    subst (λ v. IsCandidate box v) (sym (placing_at m h.start h.word p i h.placing_is l))
    (candidate_at box h.word (i - 3) h.turn.visited.word.candidates (omega arith))

-- a word is its part before the last candidate with the last candidate
last_apart : (w : List WholeVector) → 1 ≤ length w → w ≡ take (length w - 1) w ++ get_or w (length w - 1) zero_vector
    ∷ []
last_apart w l =
    let k : length w - 1 + 1 ≡ length w = omega arith in
    sym (take_all (length w) w (omega arith)) ∙ ap (λ i. take i w) (sym k)
    ∙ take_more w (length w - 1) zero_vector (omega arith)

pub walk_consistent : (m : SignMap) (box steps step : ℕ) (p : List WholeVector) (es : List ℕ) (signs : List Sign)
    (h : IsWalk m box steps step p es signs) → Agrees p signs (length p - 1) ↔ IsConsistent m h.start h.word
walk_consistent m box steps step p es signs h = (there, back)
  where
    front : List WholeVector
    front = take (length h.word - 1) h.word

    there : Agrees p signs (length p - 1) → IsConsistent m h.start h.word
    there g =
        let s = h.start in
        let w = h.word in
        let few = h.turn.visited.word.few in
        let some = h.turn.visited.nonempty in
        let e = last_apart w some in
        let t : length (take (length w - 1) w) ≡ length w - 1 = length-take-le (length w - 1) w (omega arith) in
        let n = length_placing m s w p h.placing_is in
        let k : length p - 1 ≡ 3 + length (take (length w - 1) w) = omega arith in
        let q : p ≡ placed m s (take (length w - 1) w ++ get_or w (length w - 1) zero_vector ∷ []) = h.placing_is
        ∙ ap (placed m s) e in
        subst (λ x. IsConsistent m s x) (sym e)
        (consistent_longer m s (take (length w - 1) w) (get_or w (length w - 1) zero_vector) signs h.is_start
        (omega arith) h.turn.visited.consistent
        (subst (λ x. AreWanted m x signs) h.elements_are h.wanted)
        (subst (λ x. Agrees x signs (3 + length (take (length w - 1) w))) q (subst (λ i. Agrees p signs i) k g)))

    back : IsConsistent m h.start h.word → Agrees p signs (length p - 1)
    back g =
        let s = h.start in
        let w = h.word in
        let few = h.turn.visited.word.few in
        let some = h.turn.visited.nonempty in
        let e = last_apart w some in
        let t : length (take (length w - 1) w) ≡ length w - 1 = length-take-le (length w - 1) w (omega arith) in
        let n = length_placing m s w p h.placing_is in
        let k : length p - 1 ≡ 3 + length (take (length w - 1) w) = omega arith in
        let q : p ≡ placed m s (take (length w - 1) w ++ get_or w (length w - 1) zero_vector ∷ []) = h.placing_is
        ∙ ap (placed m s) e in
        subst (λ i. Agrees p signs i) (sym k)
        (subst (λ x. Agrees x signs (3 + length (take (length w - 1) w))) (sym q)
        (agrees_longer m s (take (length w - 1) w) (get_or w (length w - 1) zero_vector) signs h.is_start (omega arith)
        (subst (λ x. IsConsistent m s x) e g)
        (subst (λ x. AreWanted m x signs) h.elements_are h.wanted)))

-- the word in hand isn't full where there are fewer vectors than elements, or where it isn't consistent
pub not_full : (m : SignMap) (box steps step : ℕ) (p : List WholeVector) (es : List ℕ) (signs : List Sign)
    (h : IsWalk m box steps step p es signs) → (length p ≡ length es → ⊥) → IsFull box m h.start h.word → ⊥
not_full m box steps step p es signs h n f =
    let a = length_placing m h.start h.word p h.placing_is in
    let o = ap length h.elements_are ∙ order_length m h.start h.is_start in
    let l = f.full in
    n (omega arith)

-- the next visited word, and the answer at the last step
pub walk_more : (m : SignMap) (box steps step : ℕ) (p q : List WholeVector) (es : List ℕ) (signs : List Sign)
    (h : IsWalk m box steps step p es signs) (u : List WholeVector) → (IsFull box m h.start h.word → ⊥)
    → IsNextVisited box m h.start h.word u → q ≡ placed m h.start u → step ≢ steps
    → IsWalk m box steps (step + 1) q es signs
walk_more m box steps step p q es signs h u f n e ne =
    let w = h.within in
    let l = h.low in
    record {
      start = h.start;
      word = u;
      is_start = h.is_start;
      some = h.some;
      elements_are = h.elements_are;
      wanted = h.wanted;
      placing_is = e;
      turn = turn_more box m h.start h.word u step h.is_start h.some h.turn f n;
      low = omega arith;
      within = omega arith;
    }

drop_word : (m : SignMap) (s : Start) (w p v : List WholeVector) → p ≡ placed m s w → v ≡ drop 3 p → v ≡ w
drop_word m s w p v e d = d ∙ ap (drop 3) e

pub walk_stops : (m : SignMap) (box steps step : ℕ) (p v : List WholeVector) (es : List ℕ) (signs : List Sign)
    (h : IsWalk m box steps step p es signs) (u : List WholeVector) → (IsFull box m h.start h.word → ⊥)
    → IsNextVisited box m h.start h.word u → step ≡ steps → v ≡ drop 3 p → IsFrontier box m steps v
walk_stops m box steps step p v es signs h u f n e d =
    subst (λ x. IsFrontier box m steps x) (sym (drop_word m h.start h.word p v h.placing_is d)) (record {
      start = h.start;
      later = u;
      is_start = h.is_start;
      visited = h.turn.visited;
      steps = subst (λ k. HasSteps box m h.start h.word k) e h.turn.steps;
      none = none_up_to box m h.start h.word step h.turn f;
      more = n.visited;
      after = n.later;
    })
