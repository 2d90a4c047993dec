-- The walk of a search past candidates without the wanted signs.
--
-- Main definitions: with_last
-- Main results: walk_passed, walk_last, walk_reached
use Rattle.std.proofs.Common.{ℕ, zero, suc, ◌≡◌, ◌+◌, ◌-◌, ◌<◌, ◌≤◌, List, [], ◌∷◌, ◌++◌, length, take, get_or, inr}
use Rattle.std.proofs.Common.{arith, sym, ◌∙◌, refl, ap, subst}
use Rattle.std.proofs.lemmas.List.{take_more, take_all, length-take-le, length_push, get_or-take, get_or_push, take_at}
use Rattle.std.proofs.lemmas.List.{get_or_append_left}
use Rattle.om_signs.specs.declared.sign.Sign.{Sign}
use Rattle.om_chirotope.specs.Map.{SignMap}
use Rattle.om_vectors.specs.WholeVectors.{WholeVector, zero_vector}
use Rattle.om_points.specs.Candidates.{IsCandidate, IsNextCandidate}
use Rattle.om_points.specs.ShortVectors.{Agrees}
use Rattle.om_points.specs.Turns.{IsChanged}
use Rattle.om_points.specs.Passes.{Disagrees, IsPassed}
use Rattle.om_points.proofs.WalkedWords.{IsWalk, length_placing, walk_candidates, walk_more}
use Rattle.om_points.proofs.Walks.{walk_turned}

-- the vectors with another last one
abbrev pub with_last : List WholeVector → WholeVector → List WholeVector
with_last p u = take (length p - 1) p ++ u ∷ []

length_front : (p : List WholeVector) → 1 ≤ length p → length (take (length p - 1) p) ≡ length p - 1
length_front p l = length-take-le (length p - 1) p (omega arith)

same_length : (p : List WholeVector) (u : WholeVector) → 1 ≤ length p → length (with_last p u) ≡ length p
same_length p u l =
    let f = length_front p l in
    let n = length_push (take (length p - 1) p) u in
    omega arith

same_last : (p : List WholeVector) → 1 ≤ length p → with_last p (get_or p (length p - 1) zero_vector) ≡ p
same_last p l =
    let k : length p - 1 + 1 ≡ length p = omega arith in
    sym (take_more p (length p - 1) zero_vector (omega arith)) ∙ ap (λ i. take i p) k
    ∙ take_all (length p) p (omega arith)

last_is : (p : List WholeVector) (u : WholeVector) → 1 ≤ length p
    → get_or (with_last p u) (length p - 1) zero_vector ≡ u
last_is p u l = get_or_push (take (length p - 1) p) u zero_vector (length p - 1) (length_front p l)

before_last : (p : List WholeVector) (u : WholeVector) (i : ℕ) → i < length p - 1
    → get_or (with_last p u) i zero_vector ≡ get_or p i zero_vector
before_last p u i l =
    let f = length_front p (omega arith) in
    get_or_append_left (take (length p - 1) p) (u ∷ []) zero_vector i (omega arith)
    ∙ get_or-take (length p - 1) p i zero_vector l

not_agreed : (p : List WholeVector) (signs : List Sign) (t : WholeVector) → 1 ≤ length p
    → Disagrees p signs (length p - 1) t → Agrees (with_last p t) signs (length (with_last p t) - 1) → ⊥
not_agreed p signs t l r a =
    let k : length (with_last p t) - 1 ≡ length p - 1 = let n = same_length p t l in omega arith in
    let b : Agrees (with_last p t) signs (length p - 1) = subst (λ i. Agrees (with_last p t) signs i) k a in
    r (λ i j ij jl. rw (before_last p t i (omega arith), before_last p t j jl, last_is p t l) at (b i j ij jl))

changed : (box : ℕ) (p : List WholeVector) (signs : List Sign) (t u : WholeVector) → 4 ≤ length p
    → Disagrees p signs (length p - 1) t → IsNextCandidate box t u
    → IsChanged box (with_last p t) signs (length p - 1) u
changed box p signs t u l r k =
    let n = same_length p t (omega arith) in
    record {
      disagrees = not_agreed p signs t (omega arith) r;
      raised = record {
        low = omega arith;
        high = omega arith;
        next = subst (λ v. IsNextCandidate box v u) (sym (last_is p t (omega arith))) k;
        last = λ j a b. absurd (omega arith);
      };
    }

some_last : (m : SignMap) (box steps step : ℕ) (p : List WholeVector) (es : List ℕ) (signs : List Sign)
    → IsWalk m box steps step p es signs → 4 ≤ length p
some_last m box steps step p es signs h =
    let n = length_placing m h.start h.word p h.placing_is in
    let k = h.turn.visited.nonempty in
    omega arith

pub walk_last : {m : SignMap} {box steps step : ℕ} {p : List WholeVector} {es : List ℕ} {signs : List Sign}
    → IsWalk m box steps step p es signs → (1 ≤ length p) × IsCandidate box (get_or p (length p - 1) zero_vector)
walk_last {m} {box} {steps} {step} {p} {es} {signs} h =
    let l = some_last m box steps step p es signs h in
    (omega arith, walk_candidates m box steps step p es signs h (length p - 1) (omega arith) (omega arith))

-- where the last vector in hand is replaced by a later candidate, and no candidate up to before it has the wanted signs
pub walk_passed : (m : SignMap) (box steps step : ℕ) (p : List WholeVector) (es : List ℕ) (signs : List Sign)
    → IsWalk m box steps step p es signs → (n : ℕ) (u : WholeVector)
    → IsPassed box (Disagrees p signs (length p - 1)) (get_or p (length p - 1) zero_vector) n u → step + n ≤ steps
    → IsWalk m box steps (step + n) (with_last p u) es signs
unfolding IsPassed
walk_passed m box steps step p es signs h zero u g few =
    let l = some_last m box steps step p es signs h in
    let k : step ≡ step + 0 = omega arith in
    subst (λ i. IsWalk m box steps i (with_last p u) es signs) k
    (subst (λ x. IsWalk m box steps step x es signs) (sym (same_last p (omega arith)) ∙ ap (with_last p) g) h)
walk_passed m box steps step p es signs h (suc n) u g few =
    let l = some_last m box steps step p es signs h in
    let w = walk_passed m box steps step p es signs h n g.0 g.1 (omega arith) in
    let t = walk_turned m box steps (step + n) (with_last p g.0) es signs w (length p - 1) u
    (inr (changed box p signs g.0 u l g.2 g.3)) in
    let k : step + n + 1 ≡ step + suc n = omega arith in
    let f : take (length p - 1) (with_last p g.0) ≡ take (length p - 1) p =
    take_at (take (length p - 1) p) (g.0 ∷ []) (length p - 1) (length_front p (omega arith)) in
    subst (λ i. IsWalk m box steps i (with_last p u) es signs) k
    (walk_more m box steps (step + n) (with_last p g.0) (with_last p u) es signs w t.word t.unfinished t.next
    (t.placed_is (take (length p - 1) (with_last p g.0)) (with_last p u) refl (ap (λ x. x ++ u ∷ []) (sym f)))
    (λ e. omega arith))

pub walk_reached : {m : SignMap} {box steps step : ℕ} {p : List WholeVector} {es : List ℕ} {signs : List Sign}
    → IsWalk m box steps step p es signs → (q : List WholeVector) (n : ℕ) (u : WholeVector)
    → IsPassed box (Disagrees p signs (length p - 1)) (get_or p (length p - 1) zero_vector) n u → n ≤ steps - step
    → q ≡ with_last p u → IsWalk m box steps (step + n) q es signs
walk_reached {m} {box} {steps} {step} {p} {es} {signs} h q n u g few e =
    let w = h.within in
    subst (λ x. IsWalk m box steps (step + n) x es signs) (sym e)
    (walk_passed m box steps step p es signs h n u g (omega arith))
