use Rattle.std.proofs.Common.{◌∙◌, ◌-◌, ap, arith, length, refl, subst, sym}
use Rattle.std.proofs.lemmas.Bool.{false≢true}
use Rattle.om_signs.specs.SignVec.{IsOrthogonal}
use Rattle.om_laws.specs.Relations.{along}
use Rattle.om_laws.proofs.BridgeLaws.{length-as_list}
use Rattle.om_subsets.proofs.SetChains.{at_turn, number_at_end}
use Rattle.om_chirotope.specs.Map.{value_of}
use Rattle.om_chirotope.proofs.Apart.{first_at, orthogonal_more, orthogonal_to_all}
use Rattle.om_chirotope.proofs.NumberedSets.{sets_of_map}
use Rattle.om_chirotope.proofs.Placed.{next_placed}
use Rattle.om_chirotope.proofs.Tables.{one_below}
use Rattle.om_chirotope.proofs.cocircuit_table.first_apart_from.Goals as goal

pub loop-a-init : goal.loop-a-init
loop-a-init c = record {
  can = tt;
  finite = tt;
  sets = sets_of_map (λ m. m.rank - 1) c.map.view_is c.into_iter-a-iterator.ensures.into_iter_gives
      c.all-a-items.ensures.sets;
  held = λ b list size l. absurd (omega (arith, l));
}

pub cocircuit_of-requires : goal.cocircuit_of-requires
cocircuit_of-requires c =
    let turn = at_turn c.args.map.now.elements (c.args.map.now.rank - 1) _ _ _
    c.loop-a.invariant.sets c.loop-a.yielded_by c.in-Some.is c.next.ensures.steps in
    record { n = turn.at.n_is; size = one_below c.requires.rank_low turn.at.size }

pub orthogonal-requires : goal.orthogonal-requires
orthogonal-requires c = c.requires.vector
    ∙ sym (ap length c.cocircuit_of.ensures
    ∙ length-as_list c.args.map.now.elements (along (value_of c.args.map.now) c.in-Some.a.elements))

pub returns-then-not-orthogonal-clause-first : goal.returns-then-not-orthogonal-clause-first
returns-then-not-orthogonal-clause-first c =
    first_at c.args.map.now c.args.vector _ c.in-Some.a c.requires.rank_low
    (next_placed c.args.map.now.elements (c.args.map.now.rank - 1) _ _ _
    c.loop-a.invariant.sets c.loop-a.yielded_by c.in-Some.is c.next.ensures.steps)
    (λ o. false≢true
    (c.if-not-orthogonal.ensures.1 (subst (IsOrthogonal c.args.vector) (sym c.cocircuit_of.ensures) o)))
    c.loop-a.invariant.held

pub loop-a-preserved : goal.loop-a-preserved
loop-a-preserved c = record {
  can = tt;
  finite = tt;
  sets = c.loop-a.invariant.sets;
  held = orthogonal_more c.args.map.now c.args.vector c.loop-a.yielded _ c.in-Some.a c.requires.rank_low
      (next_placed c.args.map.now.elements (c.args.map.now.rank - 1) _ _ _
      c.loop-a.invariant.sets c.loop-a.yielded_by c.in-Some.is c.next.ensures.steps)
      (subst (IsOrthogonal c.args.vector) c.cocircuit_of.ensures (c.if-not-orthogonal.ensures.0 refl))
      c.loop-a.invariant.held;
}

pub returns-clause-none : goal.returns-clause-none
returns-clause-none c =
    orthogonal_to_all c.args.map.now c.args.vector (length c.loop-a.yielded)
    (number_at_end c.args.map.now.elements (c.args.map.now.rank - 1) _ _ _
    c.loop-a.invariant.sets c.loop-a.yielded_by c.in-None.is c.next.ensures.steps) c.loop-a.invariant.held
