-- When memory is the only cause that is left.
--
-- Main result: memory_is_cause, of a chirotope of rank 3 with room for one more element
use Rattle.std.proofs.Common.{ℕ, ◌≡◌, ◌≢◌, ◌<◌, ◌∙◌, ◌↔◌, Err, refl, sym, arith}
use Rattle.std.specs.Result.{IsErrOf}
use Rattle.om_signs.specs.declared.limits.TheConstants.{MAX_ELEMENTS}
use Rattle.om_localize.specs.declared.extend_error.ExtendError.{ExtendError}
use Rattle.om_localize.specs.declared.extend_error.ExtendError.TheVariants.{NotRank3, Full, Memory}

-- extensions of a chirotope of rank 3 with room for one more element aren't listed for want of memory alone: the two
-- facts are clauses of `extensions`, and the result is what `memory_alone` asks for
pub memory_is_cause : {T : Type 0} (rank elements : ℕ) (error : ExtendError)
    → ((r : ℕ) → IsErrOf {T = T} (Err error) (NotRank3 r) ↔ ((rank ≡ r) × (r ≢ 3)))
    → ((n : ℕ) → IsErrOf {T = T} (Err error) (Full n) ↔ ((rank ≡ 3) × (elements ≡ n) × (n ≡ MAX_ELEMENTS)))
    → rank ≡ 3 → elements < MAX_ELEMENTS → error ≡ Memory
memory_is_cause rank elements (NotRank3 r) not_rank_3 full three room =
    let h = (not_rank_3 r).0 refl in absurd (h.1 (sym h.0 ∙ three))
memory_is_cause rank elements (Full n) not_rank_3 full three room =
    let h = (full n).0 refl in let e = h.1 ∙ h.2 in absurd (omega arith)
memory_is_cause rank elements Memory not_rank_3 full three room = refl
