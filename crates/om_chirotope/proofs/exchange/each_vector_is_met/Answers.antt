use Rattle.std.proofs.Common.{ℕ, arith, refl, sym, ap, subst, below_more, ◌∙◌, ◌-◌, ◌+◌, ◌<◌, ◌≤◌}
use Rattle.std.proofs.Common.{◌∷◌, [], get_or, length}
use Rattle.std.proofs.lemmas.Bool.{false≢true}
use Rattle.std.proofs.lemmas.List.{length-append}
use Rattle.om_laws.specs.Relations.{along}
use Rattle.om_laws.proofs.BridgeLaws.{length-as_list}
use Rattle.om_subsets.proofs.SetChains.{at_turn, number_at_end}
use Rattle.om_chirotope.specs.Map.{cocircuit_vector, cocircuit_vectors, value_of}
use Rattle.om_chirotope.specs.Pictures.{IsMet}
use Rattle.om_chirotope.proofs.NumberedSets.{sets_of_map}
use Rattle.om_chirotope.proofs.SupportMarks.{exchange_of_met, met_of_exchange}
use Rattle.om_chirotope.proofs.Tables.{length-table, table_at, one_below}
use Rattle.om_chirotope.proofs.exchange.each_vector_is_met.Goals as goal

pub loop-a-init : goal.loop-a-init
loop-a-init c = record {
  can = tt;
  finite = tt;
  sets = sets_of_map (λ m. m.rank - 1) c.map.view_is c.into_iter-a-iterator.ensures.into_iter_gives
      c.all-a-items.ensures.sets;
  met = λ j l. absurd (omega (arith, l));
}

pub cocircuit_of-requires : goal.cocircuit_of-requires
cocircuit_of-requires c =
    let turn = at_turn c.args.map.now.elements (c.args.map.now.rank - 1) _ _ _
    c.loop-a.invariant.sets c.loop-a.yielded_by c.in-Some.is c.next.ensures.steps in
    record { n = turn.at.n_is; size = one_below c.requires.rank_low turn.at.size }

pub is_met-requires-clause-length : goal.is_met-requires-clause-length
is_met-requires-clause-length c = ap length c.cocircuit_of.ensures
    ∙ length-as_list c.args.map.now.elements (along (value_of c.args.map.now) c.in-Some.a.elements)

pub loop-a-preserved : goal.loop-a-preserved
loop-a-preserved c =
    let m = c.args.map.now in
    let k = length c.loop-a.yielded in
    let turn = at_turn c.args.map.now.elements (c.args.map.now.rank - 1) _ _ _
    c.loop-a.invariant.sets c.loop-a.yielded_by c.in-Some.is c.next.ensures.steps in
    let e = c.cocircuit_of.ensures ∙ ap (cocircuit_vector m) turn.here ∙ sym (table_at m k turn.inside) in
    let met : (j : ℕ) → j < k + 1 → IsMet m (get_or (cocircuit_vectors m) j []) =
    below_more _ _ c.loop-a.invariant.met (subst (IsMet m) e (c.if-not-is_met.ensures.0 refl)) in
    record {
      can = tt;
      finite = tt;
      sets = c.loop-a.invariant.sets;
      met = rw (length-append c.loop-a.yielded (c.in-Some.a ∷ [])) met;
    }

pub returns-then-not-is_met : goal.returns-then-not-is_met
returns-then-not-is_met c = (
  λ t. absurd (false≢true t),
  λ ex.
      let m = c.args.map.now in
      let turn = at_turn c.args.map.now.elements (c.args.map.now.rank - 1) _ _ _
      c.loop-a.invariant.sets c.loop-a.yielded_by c.in-Some.is c.next.ensures.steps in
      let low = c.requires.rank_low in
      let size = turn.at.size in
      absurd (false≢true
      (c.if-not-is_met.ensures.1
      (subst (IsMet m) (sym c.cocircuit_of.ensures)
      (met_of_exchange m c.in-Some.a.elements turn.at.list (omega (arith, low, size)) ex)))),
)

pub returns : goal.returns
returns c =
    let m = c.args.map.now in
    let end = number_at_end c.args.map.now.elements (c.args.map.now.rank - 1) _ _ _
    c.loop-a.invariant.sets c.loop-a.yielded_by c.in-None.is c.next.ensures.steps in
    let size = length-table m in
    let done : length (cocircuit_vectors m) ≤ length c.loop-a.yielded = omega (arith, end, size) in
    (λ t. exchange_of_met m (cocircuit_vectors m) _ refl done c.loop-a.invariant.met, λ ex. refl)
