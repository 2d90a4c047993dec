use Rattle.std.specs.Prelude.{◌↔◌, Result, Ok, Err, IsErrOf, IsErrAnd}
use Rattle.std.proofs.Common.{ℕ, ◌≡◌, ◌≢◌, ◌≤◌, ◌∙◌, sym, arith, rules}
use Rattle.om_signs.proofs.Results.{err-ne-ok}
use Rattle.om_signs.specs.declared.limits.TheConstants.{MAX_ELEMENTS}
use Rattle.om_localize.specs.declared.circles.TheConstants.{MAX_OLD}
use Rattle.om_localize.specs.declared.extend_error.ExtendError.{ExtendError}
use Rattle.om_localize.specs.declared.extend_error.ExtendError.TheVariants.{NotRank3, Full, Memory}
use Rattle.om_localize.proofs.extending.extensions.Goals as goal

-- a number that isn't the greatest one leaves room for a new element
not_full : (n m : ℕ) → m ≡ n → m ≤ MAX_ELEMENTS → m ≢ MAX_ELEMENTS → n ≤ MAX_OLD
not_full n m q h ne = omega arith

-- a result that isn't an error, where that error would say what is false
other_result : {T : Type 0} {x : Result T ExtendError} {e : ExtendError} {P : Type 0} → (x ≡ Err e → ⊥) → (P → ⊥)
    → IsErrOf x e ↔ P
other_result apart untrue = (λ q. absurd (apart q), λ p. absurd (untrue p))

memory_no_rank : {T : Type 0} (x : Result T ExtendError) → IsErrAnd x (λ e. e ≡ Memory) → (r : ℕ) → x ≡ Err (NotRank3 r)
    → ⊥
memory_no_rank (Ok y) h r e = h
memory_no_rank (Err d) h r e = cc

memory_not_full : {T : Type 0} (x : Result T ExtendError) → IsErrAnd x (λ e. e ≡ Memory) → (n : ℕ) → x ≡ Err (Full n)
    → ⊥
memory_not_full (Ok y) h n e = h
memory_not_full (Err d) h n e = cc

pub returns-in_err-first_signatures-clause-not_rank_3 : goal.returns-in_err-first_signatures-clause-not_rank_3
returns-in_err-first_signatures-clause-not_rank_3 g c = λ r.
    other_result (memory_no_rank _ c.from_residual.ensures.1 r)
    (λ h. h.1 (sym h.0 ∙ sym c.rank.ensures.value ∙ c.if-rank-ne3.false))

pub returns-in_err-first_signatures-clause-full : goal.returns-in_err-first_signatures-clause-full
returns-in_err-first_signatures-clause-full g c = λ n.
    other_result (memory_not_full _ c.from_residual.ensures.1 n)
    (λ h. c.if-elements-eq-MAX_ELEMENTS.false (c.elements.ensures.value ∙ h.1 ∙ h.2))

pub returns-clause-not_rank_3 : goal.returns-clause-not_rank_3
returns-clause-not_rank_3 g c = λ r.
    other_result (λ q. err-ne-ok (NotRank3 r) _ (sym q))
    (λ h. h.1 (sym h.0 ∙ sym c.rank.ensures.value ∙ c.if-rank-ne3.false))

pub returns-clause-full : goal.returns-clause-full
returns-clause-full g c = λ n.
    other_result (λ q. err-ne-ok (Full n) _ (sym q))
    (λ h. c.if-elements-eq-MAX_ELEMENTS.false (c.elements.ensures.value ∙ h.1 ∙ h.2))

pub first_signatures-requires : goal.first_signatures-requires
first_signatures-requires g c = (
  search rules,
  (
    sym c.rank.ensures.value ∙ c.if-rank-ne3.false,
    not_full c.args.chi.now.elements c.elements.result c.elements.ensures.value c.elements.ensures.high
        c.if-elements-eq-MAX_ELEMENTS.false,
  ),
)
