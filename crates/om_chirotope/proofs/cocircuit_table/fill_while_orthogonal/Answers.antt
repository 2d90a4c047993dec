use Rattle.std.proofs.Common.{◌∙◌, ◌-◌, ap, arith, inl, length, refl, subst, sym}
use Rattle.std.proofs.lemmas.Bool.{false≢true}
use Rattle.std.proofs.lemmas.List.{length-set}
use Rattle.om_signs.specs.SignVec.{IsOrthogonal}
use Rattle.om_laws.specs.Relations.{along}
use Rattle.om_laws.proofs.BridgeLaws.{length-as_list}
use Rattle.om_chirotope.specs.Map.{value_of}
use Rattle.om_chirotope.proofs.Apart.{first_at, orthogonal_more}
use Rattle.om_chirotope.proofs.NumberedSets.{are_numbered, first_fits, number_fits, numbered_turn, numbered_end}
use Rattle.om_chirotope.proofs.Placed.{turn_placed}
use Rattle.om_chirotope.proofs.Tables.{IsFilledBelow, filled_more, place_fits, table_done, one_below}
use Rattle.om_chirotope.proofs.cocircuit_table.fill_while_orthogonal.Goals as goal

pub loop-place-init : goal.loop-place-init
loop-place-init c =
    let numbered =
    are_numbered (λ m. m.rank - 1) c.map.view_is c.into_iter-place-iterator.ensures.into_iter_gives
    c.enumerate-place-items.ensures.source c.enumerate-place-items.ensures.count c.all.ensures.sets c.all.ensures.few in
    record {
      can = (tt, tt, inl (first_fits numbered));
      finite = tt;
      numbered = numbered;
      size = refl;
      filled = λ j l. absurd (omega (arith, l));
      held = λ b list size l. absurd (omega (arith, l));
    }

pub cocircuit_of-other-requires : goal.cocircuit_of-other-requires
cocircuit_of-other-requires c =
    let turn = (numbered_turn _ _ _ c.loop-place.invariant.numbered c.loop-place.yielded_by c.in-Some.is
    c.next.ensures.steps).turn in
    record { n = turn.at.n_is; size = one_below c.requires.rank_low turn.at.size }

pub orthogonal-requires : goal.orthogonal-requires
orthogonal-requires c = c.requires.vector
    ∙ sym (ap length c.cocircuit_of-other.ensures
    ∙ length-as_list c.args.map.now.elements (along (value_of c.args.map.now) c.in-Some.a.elements))

pub returns-then-not-orthogonal-clause-first : goal.returns-then-not-orthogonal-clause-first
returns-then-not-orthogonal-clause-first c =
    first_at c.args.map.now c.args.vector _ c.in-Some.a c.requires.rank_low
    (turn_placed _ _ _ _ (numbered_turn _ _ _ c.loop-place.invariant.numbered c.loop-place.yielded_by c.in-Some.is
    c.next.ensures.steps).turn)
    (λ o. false≢true
    (c.if-not-orthogonal.ensures.1 (subst (IsOrthogonal c.args.vector) (sym c.cocircuit_of-other.ensures) o)))
    c.loop-place.invariant.held

pub bounds-table-place : goal.bounds-table-place
bounds-table-place c =
    place_fits c.args.map.now c.loop-place.table _ _ (c.in-Some.place, c.in-Some.a)
    (numbered_turn _ _ _ c.loop-place.invariant.numbered c.loop-place.yielded_by c.in-Some.is
    c.next.ensures.steps) c.loop-place.invariant.size c.requires.room

pub loop-place-preserved : goal.loop-place-preserved
loop-place-preserved c =
    let m = c.args.map.now in
    let turn = numbered_turn _ _ _ c.loop-place.invariant.numbered c.loop-place.yielded_by c.in-Some.is
    c.next.ensures.steps in
    let fits = number_fits _ _ _ c.loop-place.invariant.numbered c.loop-place.yielded_by c.in-Some.is
    c.next.ensures.steps in
    record {
      can = (tt, tt, inl fits);
      finite = tt;
      numbered = c.loop-place.invariant.numbered;
      size = length-set _ _ _ ∙ c.loop-place.invariant.size;
      filled = filled_more m c.loop-place.table _ c.loop-place.yielded (c.in-Some.place, c.in-Some.a)
          c.cocircuit_of-other.result turn c.loop-place.invariant.size c.requires.room c.cocircuit_of-other.ensures
          c.loop-place.invariant.filled;
      held = orthogonal_more m c.args.vector c.loop-place.yielded _ c.in-Some.a c.requires.rank_low
          (turn_placed _ _ _ _ turn.turn)
          (subst (IsOrthogonal c.args.vector) c.cocircuit_of-other.ensures (c.if-not-orthogonal.ensures.0 refl))
          c.loop-place.invariant.held;
    }

pub returns-clause-none : goal.returns-clause-none
returns-clause-none c =
    let end = numbered_end _ _ _ c.loop-place.invariant.numbered c.loop-place.yielded_by c.in-None.is
    c.next.ensures.steps in
    table_done c.args.map.now c.loop-place.table (c.loop-place.invariant.size ∙ c.requires.room)
    (subst (IsFilledBelow c.args.map.now c.loop-place.table) end c.loop-place.invariant.filled)
