use Rattle.std.proofs.Common.{◌∙◌, arith, length, refl, subst, sym}
use Rattle.std.proofs.lemmas.Bool.{false≢true}
use Rattle.om_subsets.proofs.SetChains.{all_sets_of, at_turn, number_at_end}
use Rattle.om_matroid.proofs.ParallelLaws.{AreSeen, seen_next, not_parallel, parallel_at_last, loop_not_parallel}
use Rattle.om_matroid.proofs.elements.parallel.Goals as goal
use Rattle.om_matroid.proofs.elements.parallel.Goals.{else-with_e-via-then-with_e+then-with_f+else-e-f}
use Rattle.om_matroid.proofs.elements.parallel.Goals.{else-with_e-via-then-with_e+else-with_f}
use Rattle.om_matroid.proofs.elements.parallel.Goals.{else-with_e-via-else-with_e}

pub in_basis-with_e-requires-clause-n : goal.in_basis-with_e-requires-clause-n
in_basis-with_e-requires-clause-n c =
    (at_turn c.args.chi.now.elements c.args.chi.now.rank _ _ _
    (all_sets_of (c.into_iter-b-iterator.ensures.into_iter_gives ∙ c.all-b-items.ensures.sets)
    c.elements.ensures.value c.rank.ensures.value) c.loop-b.yielded_by c.in-Some.is c.next.ensures.steps).at.n_is

pub loop-b-preserved : goal.loop-b-preserved
loop-b-preserved c =
    let turn =
    at_turn c.args.chi.now.elements c.args.chi.now.rank _ _ _
    (all_sets_of (c.into_iter-b-iterator.ensures.into_iter_gives ∙ c.all-b-items.ensures.sets)
    c.elements.ensures.value c.rank.ensures.value) c.loop-b.yielded_by c.in-Some.is c.next.ensures.steps in
    record {
      can = tt;
      finite = tt;
      seen = seen_next c.args.chi.now c.args.e c.args.f c.loop-b.yielded c.in-Some.b c.loop-b.first c.loop-b.second
          c.in_basis-with_e.result.0 c.in_basis-with_e.result.1 turn.here c.in_basis-with_e.ensures.first
          c.in_basis-with_e.ensures.second (λ here there. elim c.else-with_e.branch [
            | else-with_e-via-then-with_e+then-with_f+else-e-f w ↦ w.if-e-f.false
            | else-with_e-via-then-with_e+else-with_f w ↦ absurd (false≢true (sym w.if-with_f.false ∙ there))
            | else-with_e-via-else-with_e w ↦ absurd (false≢true (sym w.if-with_e.false ∙ here))
          ]) c.loop-b.invariant.seen;
    }

pub returns-then-e-f : goal.returns-then-e-f
returns-then-e-f c =
    let with_e = c.in_basis-with_e.ensures.first.0 c.if-with_e.true in
    let with_f = c.in_basis-with_e.ensures.second.0 c.if-with_f.true in
    let none = not_parallel c.args.chi.now c.args.e c.args.f c.if-e-f.true c.in-Some.b.elements
    (with_e.0, with_e.1, with_f.1) in
    (λ t. cc, λ parallel. absurd (none parallel))

pub returns-then-first : goal.returns-then-first
returns-then-first c =
    let m = c.args.chi.now in
    let all =
    number_at_end m.elements m.rank _ _ _
    (all_sets_of (c.into_iter-b-iterator.ensures.into_iter_gives ∙ c.all-b-items.ensures.sets)
    c.elements.ensures.value c.rank.ensures.value) c.loop-b.yielded_by c.in-None.is c.next.ensures.steps in
    let seen = subst (λ k. AreSeen m c.args.e c.args.f k c.loop-b.first c.loop-b.second) all c.loop-b.invariant.seen in
    parallel_at_last m c.args.e c.args.f c.loop-b.first c.loop-b.second seen.one seen.other seen.apart c.if-first.true

pub returns-else-first : goal.returns-else-first
returns-else-first c =
    let m = c.args.chi.now in
    let all =
    number_at_end m.elements m.rank _ _ _
    (all_sets_of (c.into_iter-b-iterator.ensures.into_iter_gives ∙ c.all-b-items.ensures.sets)
    c.elements.ensures.value c.rank.ensures.value) c.loop-b.yielded_by c.in-None.is c.next.ensures.steps in
    let seen = subst (λ k. AreSeen m c.args.e c.args.f k c.loop-b.first c.loop-b.second) all c.loop-b.invariant.seen in
    (λ t. cc, λ both. absurd (loop_not_parallel m c.args.e c.args.f c.loop-b.first seen.one c.if-first.false both))
