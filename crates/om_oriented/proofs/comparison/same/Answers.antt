use Rattle.std.proofs.Common.{refl}
use Rattle.om_oriented.proofs.Walks.{fewer, agree_at_first, agree_on, agree_at_last, first_difference, no_difference}
use Rattle.om_oriented.proofs.comparison.same.Goals as goal

pub loop-x-init : goal.loop-x-init
loop-x-init g c = agree_at_first _ _ _ c.least-x.result c.elements.result c.least-x.ensures c.elements.ensures.value

pub returns-then-is_covector-clause-first : goal.returns-then-is_covector-clause-first
returns-then-is_covector-clause-first g c =
    first_difference _ _ _ c.is_covector.result c.is_covector-in-loop-x.result c.loop-x.x c.loop-x.invariant
    c.is_covector.ensures c.is_covector-in-loop-x.ensures c.if-is_covector.true

pub loop-x-smaller : goal.loop-x-smaller
loop-x-smaller g c = fewer c.loop-x.x c.in-Some.next c.in-Some.ensures.size c.in-Some.ensures.next

pub loop-x-preserved : goal.loop-x-preserved
loop-x-preserved g c = agree_on _ _ _ c.is_covector.result c.is_covector-in-loop-x.result c.loop-x.x c.in-Some.next
    c.loop-x.invariant c.is_covector.ensures c.is_covector-in-loop-x.ensures c.if-is_covector.false
    c.in-Some.ensures.size c.in-Some.ensures.next

pub returns-in-None-clause-same : goal.returns-in-None-clause-same
returns-in-None-clause-same g c = (
  λ e. agree_at_last _ _ _ c.is_covector.result c.is_covector-in-loop-x.result c.loop-x.x c.loop-x.invariant
      c.is_covector.ensures c.is_covector-in-loop-x.ensures c.if-is_covector.false (c.in-None.ensures.none.0 refl),
  λ h. refl,
)

pub returns-in-None-clause-differ : goal.returns-in-None-clause-differ
returns-in-None-clause-differ g c = (
  λ e. cc,
  λ h. absurd
      (no_difference _ _ _
      (agree_at_last _ _ _ c.is_covector.result c.is_covector-in-loop-x.result c.loop-x.x c.loop-x.invariant
      c.is_covector.ensures c.is_covector-in-loop-x.ensures c.if-is_covector.false (c.in-None.ensures.none.0 refl)) h),
)
