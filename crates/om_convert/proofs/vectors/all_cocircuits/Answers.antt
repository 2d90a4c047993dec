use Rattle.std.proofs.Common.{◌-◌, ◌∷◌, [], ◌∙◌, length, sym, ap, subst, arith}
use Rattle.std.proofs.lemmas.List.{length-append}
use Rattle.std.proofs.lemmas.Result.{err_from_is_err_and}
use Rattle.om_subsets.proofs.SetChains.{all_sets_of, at_turn, number_at_end}
use Rattle.om_chirotope.specs.Map.{cocircuit_vector}
use Rattle.om_denotation.specs.Circuits.{IsCocircuitOfChirotope}
use Rattle.om_denotation.specs.Listings.{AreAllOf}
use Rattle.om_convert.proofs.PlaceLaws.{IsOfPlace, none_at_places, gathered_more, cause_at_place, cocircuits_of_places}
use Rattle.om_convert.proofs.PlaceLaws.{cocircuit_cause, no_cocircuits}
use Rattle.om_convert.proofs.vectors.all_cocircuits.Goals as goal

pub loop-a-init : goal.loop-a-init
loop-a-init c = (
  tt,
  tt,
  subst (AreAllOf (IsOfPlace (cocircuit_vector c.args.chi.now) c.args.chi.now.elements (c.args.chi.now.rank - 1) 0))
      (sym c.new-cocircuits.ensures)
      (none_at_places (cocircuit_vector c.args.chi.now) c.args.chi.now.elements (c.args.chi.now.rank - 1)),
)

pub cocircuit_of-u-requires : goal.cocircuit_of-u-requires
cocircuit_of-u-requires c =
    let turn = at_turn c.args.chi.now.elements (c.args.chi.now.rank - 1) _ _ _
    (all_sets_of (c.into_iter-a-iterator.ensures.into_iter_gives ∙ c.all-a-items.ensures.sets)
    c.elements.ensures.value (ap (λ r. r - 1) c.rank-rank.ensures.value)) c.loop-a.yielded_by c.in-Some.is
    c.next.ensures.steps in
    let size = turn.at.size in
    let r = c.rank-rank.ensures.value in
    let some = c.if-rank-eq0.false in
    record { n = turn.at.n_is; size = omega (arith, size, r, some) }

pub loop-a-preserved : goal.loop-a-preserved
loop-a-preserved c =
    let turn = at_turn c.args.chi.now.elements (c.args.chi.now.rank - 1) _ _ _
    (all_sets_of (c.into_iter-a-iterator.ensures.into_iter_gives ∙ c.all-a-items.ensures.sets)
    c.elements.ensures.value (ap (λ r. r - 1) c.rank-rank.ensures.value)) c.loop-a.yielded_by c.in-Some.is
    c.next.ensures.steps in (
      tt,
      tt,
      rw (length-append c.loop-a.yielded (c.in-Some.a ∷ []))
          (gathered_more (cocircuit_vector c.args.chi.now) c.args.chi.now.elements (c.args.chi.now.rank - 1)
          (length c.loop-a.yielded) c.cocircuit_of-u.result
          (c.cocircuit_of-u.ensures ∙ ap (cocircuit_vector c.args.chi.now) turn.here) c.loop-a.cocircuits
          c.insert_signed.new.self c.loop-a.invariant.2 c.in_ok-insert_signed.ensures.added),
    )

pub returns-in_err-insert_signed-clause-many : goal.returns-in_err-insert_signed-clause-many
returns-in_err-insert_signed-clause-many c =
    let p = err_from_is_err_and c.from_residual.result c.from_residual.ensures.1 in
    let turn = at_turn c.args.chi.now.elements (c.args.chi.now.rank - 1) _ _ _
    (all_sets_of (c.into_iter-a-iterator.ensures.into_iter_gives ∙ c.all-a-items.ensures.sets)
    c.elements.ensures.value (ap (λ r. r - 1) c.rank-rank.ensures.value)) c.loop-a.yielded_by c.in-Some.is
    c.next.ensures.steps in
    rw (p.1, p.2)
    (cocircuit_cause c.args.chi.now
    (let r = c.rank-rank.ensures.value in let some = c.if-rank-eq0.false in omega (arith, r, some))
    c.in_err-insert_signed.field-0.0
    (cause_at_place (cocircuit_vector c.args.chi.now) c.args.chi.now.elements (c.args.chi.now.rank - 1)
    (length c.loop-a.yielded) c.cocircuit_of-u.result
    (c.cocircuit_of-u.ensures ∙ ap (cocircuit_vector c.args.chi.now) turn.here) turn.inside c.loop-a.cocircuits
    c.in_err-insert_signed.field-0.0 c.loop-a.invariant.2 c.in_err-insert_signed.ensures.many))

pub returns-clause-members : goal.returns-clause-members
returns-clause-members c =
    cocircuits_of_places c.args.chi.now
    (let r = c.rank-rank.ensures.value in let some = c.if-rank-eq0.false in omega (arith, r, some))
    (length c.loop-a.yielded)
    (number_at_end c.args.chi.now.elements (c.args.chi.now.rank - 1) _ _ _
    (all_sets_of (c.into_iter-a-iterator.ensures.into_iter_gives ∙ c.all-a-items.ensures.sets)
    c.elements.ensures.value (ap (λ r. r - 1) c.rank-rank.ensures.value)) c.loop-a.yielded_by c.in-None.is
    c.next.ensures.steps) c.loop-a.cocircuits c.loop-a.invariant.2

pub returns-then-rank-eq0-clause-members : goal.returns-then-rank-eq0-clause-members
returns-then-rank-eq0-clause-members c =
    subst (AreAllOf (IsCocircuitOfChirotope c.args.chi.now)) (sym c.new-cocircuits.ensures)
    (no_cocircuits c.args.chi.now (sym c.rank-rank.ensures.value ∙ c.if-rank-eq0.true))
