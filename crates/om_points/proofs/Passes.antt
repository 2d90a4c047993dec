-- Passing candidates.
--
-- Main results: passed_none, passed_more, passed_further, passed_where, passed_candidate, passed_along
use Rattle.std.proofs.Common.{ℕ, zero, suc, ◌≡◌, ◌+◌, ◌<◌, arith, refl, subst}
use Rattle.om_vectors.specs.WholeVectors.{WholeVector}
use Rattle.om_points.specs.Candidates.{IsCandidate, IsNextCandidate}
use Rattle.om_points.specs.Passes.{IsPassed}

pub passed_none : (box : ℕ) (R : WholeVector → Type 0) (v : WholeVector) → IsPassed box R v 0 v
unfolding IsPassed
passed_none box R v = refl

pub passed_more : (box : ℕ) (R : WholeVector → Type 0) (v t u : WholeVector) (n : ℕ) → IsPassed box R v n t → R t
    → IsNextCandidate box t u → IsPassed box R v (n + 1) u
unfolding IsPassed
passed_more box R v t u n h r k = let e : n + 1 ≡ suc n = omega arith in rw e (t, h, r, k)

pub passed_further : (box : ℕ) (R : WholeVector → Type 0) (v t u : WholeVector) (m n : ℕ) → IsPassed box R v m t
    → IsPassed box R t n u → IsPassed box R v (m + n) u
unfolding IsPassed
passed_further box R v t u m zero h g = let e : m + 0 ≡ m = omega arith in rw e (subst (λ x. IsPassed box R v m x) g h)
passed_further box R v t u m (suc n) h g =
    let e : m + suc n ≡ suc (m + n) = omega arith in
    rw e (g.0, passed_further box R v t g.0 m n h g.1, g.2, g.3)

pub passed_where : (box : ℕ) (R S : WholeVector → Type 0) → ((x : WholeVector) → R x → S x)
    → (v u : WholeVector) (n : ℕ) → IsPassed box R v n u → IsPassed box S v n u
unfolding IsPassed
passed_where box R S f v u zero h = h
passed_where box R S f v u (suc n) h = (h.0, passed_where box R S f v h.0 n h.1, f h.0 h.2, h.3)

pub passed_candidate : (box : ℕ) (R : WholeVector → Type 0) (v u : WholeVector) (n : ℕ) → IsCandidate box v
    → IsPassed box R v n u → IsCandidate box u
unfolding IsPassed
passed_candidate box R v u zero c h = subst (λ x. IsCandidate box x) h c
passed_candidate box R v u (suc n) c h = h.3.candidate

-- along candidates one after the other
pub passed_along : (box : ℕ) (R : WholeVector → Type 0) (at : ℕ → WholeVector) (n : ℕ)
    → ((i : ℕ) → i < n → IsNextCandidate box (at i) (at (i + 1))) → ((i : ℕ) → i < n → R (at i))
    → IsPassed box R (at 0) n (at n)
unfolding IsPassed
passed_along box R at zero next r = refl
passed_along box R at (suc n) next r =
    let e : n + 1 ≡ suc n = omega arith in (
      at n,
      passed_along box R at n (λ i l. next i (omega arith)) (λ i l. r i (omega arith)),
      r n (omega arith),
      subst (λ k. IsNextCandidate box (at n) (at k)) e (next n (omega arith)),
    )
