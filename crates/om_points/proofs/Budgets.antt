-- The numbers of candidates and of words, and that a frontier's budget is less than the number of words that aren't
-- empty.
--
-- Main results: candidates_number, words_number, frontier_budget, enough.
use Rattle.std.proofs.Common.{ℕ, zero, suc, ◌≡◌, ◌+◌, ◌*◌, ◌^◌, ◌<◌, ◌≤◌, ◌⊎◌, List, [], ◌∷◌, length, inl, inr, arith}
use Rattle.std.proofs.Common.{sym, ◌∙◌, refl, ap, subst}
use Rattle.std.specs.Prelude.{ℤ, pos, negsuc, unsigned_abs, Result, Ok, Err, IfErr}
use Rattle.std.proofs.lemmas.Bool.{cases_lt}
use Rattle.std.proofs.Math.Nat.{pow-succ', pow-zero, mul-one}
use Rattle.om_chirotope.specs.Map.{SignMap}
use Rattle.om_vectors.specs.WholeVectors.{WholeVector, vector_of, zero_vector}
use Rattle.om_vectors.specs.declared.unfound.Unfound.{Unfound}
use Rattle.om_vectors.specs.declared.unfound.Unfound.TheVariants.{Exhausted, Frontier}
use Rattle.om_points.specs.Budgets.{candidates_in, words_of}
use Rattle.om_points.specs.Candidates.{greatest, IsCandidate}
use Rattle.om_points.specs.Numbers.{HasNumber}
use Rattle.om_points.specs.Searches.{IsFrontier, IsUnfound}
use Rattle.om_points.specs.Starts.{Start, IsStart}
use Rattle.om_points.specs.Words.{AreCandidates, IsWord, IsVisitedUpTo}
use Rattle.om_points.proofs.Counting.{number_less, number_same, number_none, number_one, number_either, number_without}
use Rattle.om_points.proofs.Counting.{IsPair, number_pairs}
use Rattle.om_points.proofs.Uniqueness.{start_unique}
use Rattle.om_points.proofs.WordOrder.{word_not_both}

-- ---- candidates

-- a coordinate from -b to b
abbrev IsIn : ℕ → ℤ → Type 0
IsIn b x = unsigned_abs x ≤ b

coordinates_number : (b : ℕ) → HasNumber (IsIn b) (2 * b + 1)
coordinates_number zero = number_same (λ x. x ≡ pos 0) (IsIn 0) 1 (number_one (pos 0))
    (λ x. (λ e. subst (IsIn 0) (sym e) (omega arith), zero_alone x))
  where
    zero_alone : (x : ℤ) → IsIn 0 x → x ≡ pos 0
    zero_alone (pos n) h = ap pos (omega arith)
    zero_alone (negsuc n) h = absurd (omega arith)
coordinates_number (suc b) =
    subst (λ n. HasNumber (IsIn (suc b)) n) (let z : 2 * b + 1 + (1 + 1) ≡ 2 * suc b + 1 = omega arith in z)
    (number_same (λ x. IsIn b x ⊎ ((x ≡ pos (suc b)) ⊎ (x ≡ negsuc b))) (IsIn (suc b)) (2 * b + 1 + (1 + 1))
    (number_either (IsIn b) (λ x. (x ≡ pos (suc b)) ⊎ (x ≡ negsuc b)) (2 * b + 1) (1 + 1) (coordinates_number b)
    (number_either (λ x. x ≡ pos (suc b)) (λ x. x ≡ negsuc b) 1 1 (number_one (pos (suc b))) (number_one (negsuc b))
    (λ x e f. cc))
    larger)
    (λ x. (there x, back x)))
  where
    larger : (x : ℤ) → IsIn b x → (x ≡ pos (suc b)) ⊎ (x ≡ negsuc b) → ⊥
    larger x l (inl e) = let a = ap unsigned_abs e in omega arith
    larger x l (inr e) = let a = ap unsigned_abs e in omega arith

    there : (x : ℤ) → IsIn b x ⊎ ((x ≡ pos (suc b)) ⊎ (x ≡ negsuc b)) → IsIn (suc b) x
    there x (inl l) = omega arith
    there x (inr (inl e)) = let a = ap unsigned_abs e in omega arith
    there x (inr (inr e)) = let a = ap unsigned_abs e in omega arith

    back : (x : ℤ) → IsIn (suc b) x → IsIn b x ⊎ ((x ≡ pos (suc b)) ⊎ (x ≡ negsuc b))
    back (pos n) l = elim (cases_lt b n) [ inl h ↦ inr (inl (ap pos (omega arith))) | inr h ↦ inl h ]
    back (negsuc n) l = elim (cases_lt b (suc n)) [ inl h ↦ inr (inr (ap negsuc (omega arith))) | inr h ↦ inl h ]

cubed : (n : ℕ) → n * (n * n) ≡ n ^ 3
cubed n =
    sym (pow-succ' n 2
    ∙ ap (λ t. n * t) (pow-succ' n 1 ∙ ap (λ t. n * t) (pow-succ' n 0 ∙ ap (λ t. n * t) (pow-zero n) ∙ mul-one n)))

-- two such coordinates
abbrev IsPlane : ℕ → ℤ × ℤ → Type 0
IsPlane b = IsPair (λ y z. (y, z)) (IsIn b) (IsIn b)

-- the vectors in a box, with zero
vectors_number : (b : ℕ) → HasNumber (λ v. greatest v ≤ b) ((2 * b + 1) ^ 3)
vectors_number b =
    subst (λ n. HasNumber (λ v. greatest v ≤ b) n) (cubed (2 * b + 1))
    (number_same (IsPair (λ x p. vector_of x p.0 p.1) (IsIn b) (IsPlane b)) (λ v. greatest v ≤ b)
    ((2 * b + 1) * ((2 * b + 1) * (2 * b + 1)))
    (number_pairs (λ x p. vector_of x p.0 p.1) (IsIn b) (IsPlane b) (2 * b + 1) ((2 * b + 1) * (2 * b + 1))
    (λ x y p q e. (ap (λ v. v.x) e, ap (λ v. (v.y, v.z)) e)) (coordinates_number b)
    (number_pairs (λ y z. (y, z)) (IsIn b) (IsIn b) (2 * b + 1) (2 * b + 1)
    (λ x y p q e. (ap (λ t. t.0) e, ap (λ t. t.1) e)) (coordinates_number b) (coordinates_number b)))
    (λ v. (there v, back v)))
  where
    there : (v : WholeVector) → IsPair (λ x p. vector_of x p.0 p.1) (IsIn b) (IsPlane b) v → greatest v ≤ b
    there v h =
        let x = ap (λ t. unsigned_abs t.x) h.made in
        let y = ap (λ t. unsigned_abs t.y) h.made ∙ ap (λ t. unsigned_abs t.0) h.other.made in
        let z = ap (λ t. unsigned_abs t.z) h.made ∙ ap (λ t. unsigned_abs t.1) h.other.made in
        let a = h.one in
        let c = h.other.one in
        let d = h.other.other in
        omega arith

    back : (v : WholeVector) → greatest v ≤ b → IsPair (λ x p. vector_of x p.0 p.1) (IsIn b) (IsPlane b) v
    back v h = record {
      first = v.x;
      second = (v.y, v.z);
      one = omega arith;
      other = record { first = v.y; second = v.z; one = omega arith; other = omega arith; made = refl };
      made = refl;
    }

pub candidates_number : (b : ℕ) → HasNumber (IsCandidate b) (candidates_in b)
candidates_number b = number_same (λ v. (greatest v ≤ b) × (v ≡ zero_vector → ⊥)) (IsCandidate b) (candidates_in b)
    (number_without (λ v. greatest v ≤ b) ((2 * b + 1) ^ 3) zero_vector (vectors_number b) (omega arith))
    (λ v. (λ h. record { nonzero = h.1; within = h.0 }, λ h. (h.within, h.nonzero)))

-- ---- words

-- a word of k candidates
abbrev IsWordOfSize : ℕ → ℕ → List WholeVector → Type 0
IsWordOfSize b k w = AreCandidates b w × (length w ≡ k)

-- a word of at least one candidate and at most f
abbrev IsWordUpToSize : ℕ → ℕ → List WholeVector → Type 0
IsWordUpToSize b f w = AreCandidates b w × (1 ≤ length w) × (length w ≤ f)

sized_words_number : (b k : ℕ) → HasNumber (IsWordOfSize b k) (candidates_in b ^ k)
sized_words_number b zero =
    subst (λ n. HasNumber (IsWordOfSize b 0) n) (sym (pow-zero (candidates_in b)))
    (number_same (λ w. w ≡ []) (IsWordOfSize b 0) 1 (number_one [])
    (λ w. (λ e. subst (IsWordOfSize b 0) (sym e) (tt, refl), empty w)))
  where
    empty : (w : List WholeVector) → IsWordOfSize b 0 w → w ≡ []
    empty [] h = refl
    empty (v ∷ w) h = let e = h.1 in absurd (omega arith)
sized_words_number b (suc k) =
    subst (λ n. HasNumber (IsWordOfSize b (suc k)) n) (sym (pow-succ' (candidates_in b) k))
    (number_same (IsPair (λ v w. v ∷ w) (IsCandidate b) (IsWordOfSize b k)) (IsWordOfSize b (suc k))
    (candidates_in b * candidates_in b ^ k)
    (number_pairs (λ v w. v ∷ w) (IsCandidate b) (IsWordOfSize b k) (candidates_in b) (candidates_in b ^ k)
    (λ u v w x e. (cc, cc)) (candidates_number b) (sized_words_number b k))
    (λ w. (λ h. subst (IsWordOfSize b (suc k)) (sym h.made) ((h.one, h.other.0), ap suc h.other.1), longer w)))
  where
    longer : (w : List WholeVector) → IsWordOfSize b (suc k) w
        → IsPair (λ v w. v ∷ w) (IsCandidate b) (IsWordOfSize b k) w
    longer [] h = let e = h.1 in absurd (omega arith)
    longer (v ∷ w) h = let e = h.1 in
        record { first = v; second = w; one = h.0.0; other = (h.0.1, omega arith); made = refl }

small_words_number : (b f : ℕ) → HasNumber (IsWordUpToSize b f) (words_of (candidates_in b) f)
small_words_number b zero = number_none (IsWordUpToSize b 0) (λ w h. let l = h.1 in let u = h.2 in omega arith)
small_words_number b (suc f) =
    number_same (λ w. IsWordUpToSize b f w ⊎ IsWordOfSize b (suc f) w) (IsWordUpToSize b (suc f))
    (words_of (candidates_in b) f + candidates_in b ^ suc f)
    (number_either (IsWordUpToSize b f) (IsWordOfSize b (suc f)) (words_of (candidates_in b) f)
    (candidates_in b ^ suc f) (small_words_number b f) (sized_words_number b (suc f))
    (λ w g h. let l = g.2 in let e = h.1 in omega arith))
    (λ w. (there w, back w))
  where
    there : (w : List WholeVector) → IsWordUpToSize b f w ⊎ IsWordOfSize b (suc f) w → IsWordUpToSize b (suc f) w
    there w (inl h) = let l = h.2 in (h.0, h.1, omega arith)
    there w (inr h) = let e = h.1 in (h.0, omega arith, omega arith)

    back : (w : List WholeVector) → IsWordUpToSize b (suc f) w → IsWordUpToSize b f w ⊎ IsWordOfSize b (suc f) w
    back w h = let u = h.2 in
        elim (cases_lt f (length w)) [ inl l ↦ inr (h.0, omega arith) | inr l ↦ inl (h.0, h.1, l) ]

-- the number of nonempty words, by the numbers of candidates and of free elements
pub words_number : (b : ℕ) (s : Start)
    → HasNumber (λ w. IsWord b s w × (1 ≤ length w)) (words_of (candidates_in b) (length s.free))
words_number b s = number_same (IsWordUpToSize b (length s.free)) (λ w. IsWord b s w × (1 ≤ length w))
    (words_of (candidates_in b) (length s.free)) (small_words_number b (length s.free))
    (λ w. (λ h. (record { few = h.2; candidates = h.0 }, h.1), λ h. (h.0.candidates, h.1, h.0.few)))

-- ---- budgets

pub frontier_budget : (box : ℕ) (m : SignMap) (budget : ℕ) (w : List WholeVector) (s : Start) → IsStart m s
    → IsFrontier box m budget w → budget < words_of (candidates_in box) (length s.free)
frontier_budget box m budget w s st h =
    subst (λ t. budget < words_of (candidates_in box) (length t.free)) (start_unique m h.start s h.is_start st)
    (number_less (IsVisitedUpTo box m h.start w) (λ v. IsWord box h.start v × (1 ≤ length v)) budget
    (words_of (candidates_in box) (length h.start.free)) h.later h.steps (words_number box h.start)
    (λ v g. (g.0.word, g.0.nonempty)) (h.more.word, h.more.nonempty) (λ g. word_not_both w h.later g.1 h.after))

pub enough : (box : ℕ) (m : SignMap) (budget : ℕ) (r : Result (List WholeVector) Unfound)
    → IfErr r (λ u. IsUnfound box m budget u) → (s : Start) → IsStart m s
    → words_of (candidates_in box) (length s.free) ≤ budget → IfErr r (λ u. u ≡ Exhausted)
enough box m budget (Ok vs) h s st l = tt
enough box m budget (Err Exhausted) h s st l = refl
enough box m budget (Err (Frontier w)) h s st l = let n = frontier_budget box m budget w s st h in absurd (omega arith)
