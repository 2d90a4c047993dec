-- What the sweep returns: which of its errors name the rank, and which name a violated pair.
--
-- Main results: rank_named and rank_not_named; memory_names_no_rank and memory_names_no_pair; rank_is_no_pair and
-- pair_is_no_rank; pair_named.
use Rattle.std.specs.Prelude.{ℕ, ◌≡◌, ◌≢◌, ◌↔◌, Result, Ok, Err, IsErrOf, IsErrAnd, IfErr}
use Rattle.std.proofs.Common.{sym, ap, subst, ◌∙◌}
use Rattle.om_subsets.specs.Members.{Chosen}
use Rattle.om_chirotope.specs.Map.{SignMap}
use Rattle.om_chirotope.specs.Chirotope.{IsFirstViolated}
use Rattle.om_wiring.specs.declared.sweep_error.SweepError.{SweepError}
use Rattle.om_wiring.specs.declared.sweep_error.SweepError.TheVariants.{NotRank3, NotSweepable, Memory}
use Rattle.om_wiring.specs.Maps.{extended}

same_rank : {T : Type 0} (k r : ℕ) → ◌≡◌ {A = Result T SweepError} (Err (NotRank3 k)) (Err (NotRank3 r)) → k ≡ r
same_rank k r e = cc

-- the error names the rank k, which isn't 3
pub rank_named : {T : Type 0} (rank k : ℕ) → k ≡ rank → k ≢ 3 → (r : ℕ)
    → IsErrOf {T = T} (Err (NotRank3 k)) (NotRank3 r) ↔ ((r ≡ rank) × (rank ≢ 3))
rank_named rank k e ne r = (
  λ h. (sym (same_rank k r h) ∙ e, λ three. ne (e ∙ three)),
  λ h. ap (λ n. Err (NotRank3 n)) (e ∙ sym h.0),
)

-- nothing names the rank k, which is 3
pub rank_not_named : (rank k : ℕ) (P : ℕ → Type 0) → k ≡ rank → k ≡ 3 → ((r : ℕ) → P r → ⊥) → (r : ℕ)
    → P r ↔ ((r ≡ rank) × (rank ≢ 3))
rank_not_named rank k P e three none r = (λ p. absurd (none r p), λ h. absurd (h.1 (sym e ∙ three)))

-- an error that memory ran out names no rank
pub memory_names_no_rank : {T : Type 0} (x : Result T SweepError) → IsErrAnd x (λ e. e ≡ Memory) → (r : ℕ)
    → x ≡ Err (NotRank3 r) → ⊥
memory_names_no_rank (Ok y) h r e = h
memory_names_no_rank (Err d) h r e = cc

-- and no violated pair
pub memory_names_no_pair : {T : Type 0} (x : Result T SweepError) (m : SignMap) → IsErrAnd x (λ e. e ≡ Memory)
    → IfErr x (λ e. (s a : Chosen) → e ≡ NotSweepable s a → IsFirstViolated (extended m) s a)
memory_names_no_pair (Ok y) m h = tt
memory_names_no_pair (Err d) m h = λ s a e. absurd cc

-- an error that names the rank names no violated pair
pub rank_is_no_pair : (k : ℕ) (s a : Chosen) → NotRank3 k ≡ NotSweepable s a → ⊥
rank_is_no_pair k s a e = cc

-- an error that names a violated pair names no rank
pub pair_is_no_rank : {T : Type 0} (s a : Chosen) (r : ℕ)
    → ◌≡◌ {A = Result T SweepError} (Err (NotSweepable s a)) (Err (NotRank3 r)) → ⊥
pair_is_no_rank s a r e = cc

-- the pair that an error names is the first violated one of the extended map
pub pair_named : (m k : SignMap) (s a : Chosen) → k ≡ extended m → IsFirstViolated k s a → (t b : Chosen)
    → NotSweepable s a ≡ NotSweepable t b → IsFirstViolated (extended m) t b
pair_named m k s a is first t b e =
    subst (λ n. IsFirstViolated n t b) is
    (subst (λ x. IsFirstViolated k x b) (first_of_pair s a t b e)
    (subst (λ y. IsFirstViolated k s y) (second_of_pair s a t b e) first))
  where
    first_of_pair : (s a t b : Chosen) → NotSweepable s a ≡ NotSweepable t b → s ≡ t
    first_of_pair s a t b e = cc

    second_of_pair : (s a t b : Chosen) → NotSweepable s a ≡ NotSweepable t b → a ≡ b
    second_of_pair s a t b e = cc
