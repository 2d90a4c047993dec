use Rattle.std.proofs.Common.{◌+◌, ◌∷◌, [], ◌∙◌, length, sym, ap, subst}
use Rattle.std.proofs.lemmas.List.{length-append}
use Rattle.std.proofs.lemmas.Result.{err_from_is_err_and}
use Rattle.om_subsets.proofs.SetChains.{all_sets_of, at_turn, number_at_end}
use Rattle.om_chirotope.specs.Map.{circuit_vector}
use Rattle.om_denotation.specs.Listings.{AreAllOf}
use Rattle.om_convert.proofs.PlaceLaws.{IsOfPlace, none_at_places, gathered_more, cause_at_place, circuits_of_places}
use Rattle.om_convert.proofs.PlaceLaws.{circuit_cause}
use Rattle.om_convert.proofs.vectors.all_circuits.Goals as goal

pub loop-s-init : goal.loop-s-init
loop-s-init c = (
  tt,
  tt,
  subst (AreAllOf (IsOfPlace (circuit_vector c.args.chi.now) c.args.chi.now.elements (c.args.chi.now.rank + 1) 0))
      (sym c.new-circuits.ensures)
      (none_at_places (circuit_vector c.args.chi.now) c.args.chi.now.elements (c.args.chi.now.rank + 1)),
)

pub circuit_of-v-requires : goal.circuit_of-v-requires
circuit_of-v-requires c =
    let turn = at_turn c.args.chi.now.elements (c.args.chi.now.rank + 1) _ _ _
    (all_sets_of (c.into_iter-s-iterator.ensures.into_iter_gives ∙ c.all-s-items.ensures.sets)
    c.elements.ensures.value (ap (λ r. r + 1) c.rank.ensures.value)) c.loop-s.yielded_by c.in-Some.is
    c.next.ensures.steps in
    record { n = turn.at.n_is; size = turn.at.size }

pub loop-s-preserved : goal.loop-s-preserved
loop-s-preserved c =
    let turn = at_turn c.args.chi.now.elements (c.args.chi.now.rank + 1) _ _ _
    (all_sets_of (c.into_iter-s-iterator.ensures.into_iter_gives ∙ c.all-s-items.ensures.sets)
    c.elements.ensures.value (ap (λ r. r + 1) c.rank.ensures.value)) c.loop-s.yielded_by c.in-Some.is
    c.next.ensures.steps in (
      tt,
      tt,
      rw (length-append c.loop-s.yielded (c.in-Some.s ∷ []))
          (gathered_more (circuit_vector c.args.chi.now) c.args.chi.now.elements (c.args.chi.now.rank + 1)
          (length c.loop-s.yielded) c.circuit_of-v.result
          (c.circuit_of-v.ensures ∙ ap (circuit_vector c.args.chi.now) turn.here) c.loop-s.circuits
          c.insert_signed.new.self c.loop-s.invariant.2 c.in_ok-insert_signed.ensures.added),
    )

pub returns-in_err-insert_signed-clause-many : goal.returns-in_err-insert_signed-clause-many
returns-in_err-insert_signed-clause-many c =
    let p = err_from_is_err_and c.from_residual.result c.from_residual.ensures.1 in
    let turn = at_turn c.args.chi.now.elements (c.args.chi.now.rank + 1) _ _ _
    (all_sets_of (c.into_iter-s-iterator.ensures.into_iter_gives ∙ c.all-s-items.ensures.sets)
    c.elements.ensures.value (ap (λ r. r + 1) c.rank.ensures.value)) c.loop-s.yielded_by c.in-Some.is
    c.next.ensures.steps in
    rw (p.1, p.2)
    (circuit_cause c.args.chi.now c.in_err-insert_signed.field-0.0
    (cause_at_place (circuit_vector c.args.chi.now) c.args.chi.now.elements (c.args.chi.now.rank + 1)
    (length c.loop-s.yielded) c.circuit_of-v.result
    (c.circuit_of-v.ensures ∙ ap (circuit_vector c.args.chi.now) turn.here) turn.inside c.loop-s.circuits
    c.in_err-insert_signed.field-0.0 c.loop-s.invariant.2 c.in_err-insert_signed.ensures.many))

pub returns-clause-members : goal.returns-clause-members
returns-clause-members c =
    circuits_of_places c.args.chi.now (length c.loop-s.yielded)
    (number_at_end c.args.chi.now.elements (c.args.chi.now.rank + 1) _ _ _
    (all_sets_of (c.into_iter-s-iterator.ensures.into_iter_gives ∙ c.all-s-items.ensures.sets)
    c.elements.ensures.value (ap (λ r. r + 1) c.rank.ensures.value)) c.loop-s.yielded_by c.in-None.is
    c.next.ensures.steps) c.loop-s.circuits c.loop-s.invariant.2
