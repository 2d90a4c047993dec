use Rattle.std.proofs.Common.{◌∙◌, ◌+◌, ap, arith, length, refl}
use Rattle.om_laws.specs.Relations.{around}
use Rattle.om_laws.proofs.BridgeLaws.{length-as_list}
use Rattle.om_subsets.proofs.SetChains.{at_turn, number_at_end}
use Rattle.om_chirotope.specs.Map.{value_of}
use Rattle.om_chirotope.proofs.Apart.{all_below_more, first_violated, pair_found}
use Rattle.om_chirotope.proofs.NumberedSets.{sets_of_map}
use Rattle.om_chirotope.proofs.Placed.{next_placed}
use Rattle.om_chirotope.proofs.Tables.{all_done}
use Rattle.om_chirotope.proofs.scan.scan_each.Goals as goal

pub loop-s-init : goal.loop-s-init
loop-s-init c = record {
  can = tt;
  finite = tt;
  sets = sets_of_map (λ m. m.rank + 1) c.map.view_is c.into_iter-s-iterator.ensures.into_iter_gives
      c.all-s-items.ensures.sets;
  all = λ t b p l. absurd (omega (arith, l));
}

pub circuit_of-requires : goal.circuit_of-requires
circuit_of-requires c =
    let at = (at_turn c.args.map.now.elements (c.args.map.now.rank + 1) _ _ _
    c.loop-s.invariant.sets c.loop-s.yielded_by c.in-Some.is c.next.ensures.steps).at in
    record { n = at.n_is; size = at.size }

pub first_apart_from-requires-clause-vector : goal.first_apart_from-requires-clause-vector
first_apart_from-requires-clause-vector c = ap length c.circuit_of.ensures
    ∙ length-as_list c.args.map.now.elements (around (value_of c.args.map.now) c.in-Some.s.elements)

pub returns-in-Some-first_apart_from-clause-first : goal.returns-in-Some-first_apart_from-clause-first
returns-in-Some-first_apart_from-clause-first c =
    first_violated c.args.map.now c.in-Some.s c.in-Some-first_apart_from.a _ c.circuit_of.result
    (next_placed c.args.map.now.elements (c.args.map.now.rank + 1) _ _ _
    c.loop-s.invariant.sets c.loop-s.yielded_by c.in-Some.is c.next.ensures.steps)
    c.circuit_of.ensures c.in-Some-first_apart_from.ensures.first c.loop-s.invariant.all

pub returns-in-Some-first_apart_from-clause-none : goal.returns-in-Some-first_apart_from-clause-none
returns-in-Some-first_apart_from-clause-none c =
    pair_found c.args.map.now c.in-Some.s c.in-Some-first_apart_from.a
    (first_violated c.args.map.now c.in-Some.s c.in-Some-first_apart_from.a _ c.circuit_of.result
    (next_placed c.args.map.now.elements (c.args.map.now.rank + 1) _ _ _
    c.loop-s.invariant.sets c.loop-s.yielded_by c.in-Some.is c.next.ensures.steps)
    c.circuit_of.ensures c.in-Some-first_apart_from.ensures.first c.loop-s.invariant.all)

pub loop-s-preserved : goal.loop-s-preserved
loop-s-preserved c = record {
  can = tt;
  finite = tt;
  sets = c.loop-s.invariant.sets;
  all = all_below_more c.args.map.now c.loop-s.yielded _ c.in-Some.s c.circuit_of.result
      (next_placed c.args.map.now.elements (c.args.map.now.rank + 1) _ _ _
      c.loop-s.invariant.sets c.loop-s.yielded_by c.in-Some.is c.next.ensures.steps)
      c.circuit_of.ensures c.in_default.ensures.none c.loop-s.invariant.all;
}

pub returns-clause-none : goal.returns-clause-none
returns-clause-none c =
    let end = number_at_end c.args.map.now.elements (c.args.map.now.rank + 1) _ _ _
    c.loop-s.invariant.sets c.loop-s.yielded_by c.in-None.is c.next.ensures.steps in
    (λ e. all_done c.args.map.now (length c.loop-s.yielded) (omega (arith, end)) c.loop-s.invariant.all, λ h. refl)
