use Rattle.std.proofs.Common.{◌∙◌, ◌-◌, arith, inl, refl, subst}
use Rattle.std.proofs.lemmas.List.{length-set}
use Rattle.om_chirotope.proofs.NumberedSets.{are_numbered, first_fits, number_fits, numbered_turn, numbered_end}
use Rattle.om_chirotope.proofs.Tables.{IsFilledBelow, filled_more, place_fits, table_done, one_below}
use Rattle.om_chirotope.proofs.cocircuit_table.fill.Goals as goal

pub loop-place-init : goal.loop-place-init
loop-place-init c =
    let numbered =
    are_numbered (λ m. m.rank - 1) c.map.view_is c.into_iter-place-iterator.ensures.into_iter_gives
    c.enumerate-place-items.ensures.source c.enumerate-place-items.ensures.count c.all.ensures.sets c.all.ensures.few in
    record {
      can = (tt, tt, inl (first_fits numbered));
      finite = tt;
      numbered = numbered;
      size = refl;
      filled = λ j l. absurd (omega (arith, l));
    }

pub cocircuit_of-requires : goal.cocircuit_of-requires
cocircuit_of-requires c =
    let turn = (numbered_turn _ _ _ c.loop-place.invariant.numbered c.loop-place.yielded_by c.in-Some.is
    c.next.ensures.steps).turn in
    record { n = turn.at.n_is; size = one_below c.requires.rank_low turn.at.size }

pub bounds-table-place : goal.bounds-table-place
bounds-table-place c =
    place_fits c.args.map.now c.loop-place.table _ _ (c.in-Some.place, c.in-Some.a)
    (numbered_turn _ _ _ c.loop-place.invariant.numbered c.loop-place.yielded_by c.in-Some.is
    c.next.ensures.steps) c.loop-place.invariant.size c.requires.room

pub loop-place-preserved : goal.loop-place-preserved
loop-place-preserved c =
    let m = c.args.map.now in
    let turn = numbered_turn _ _ _ c.loop-place.invariant.numbered c.loop-place.yielded_by c.in-Some.is
    c.next.ensures.steps in
    let fits = number_fits _ _ _ c.loop-place.invariant.numbered c.loop-place.yielded_by c.in-Some.is
    c.next.ensures.steps in
    record {
      can = (tt, tt, inl fits);
      finite = tt;
      numbered = c.loop-place.invariant.numbered;
      size = length-set _ _ _ ∙ c.loop-place.invariant.size;
      filled = filled_more m c.loop-place.table _ c.loop-place.yielded (c.in-Some.place, c.in-Some.a)
          c.cocircuit_of.result turn c.loop-place.invariant.size c.requires.room c.cocircuit_of.ensures
          c.loop-place.invariant.filled;
    }

pub returns : goal.returns
returns c =
    let end = numbered_end _ _ _ c.loop-place.invariant.numbered c.loop-place.yielded_by c.in-None.is
    c.next.ensures.steps in
    table_done c.args.map.now c.loop-place.table (c.loop-place.invariant.size ∙ c.requires.room)
    (subst (IsFilledBelow c.args.map.now c.loop-place.table) end c.loop-place.invariant.filled)
