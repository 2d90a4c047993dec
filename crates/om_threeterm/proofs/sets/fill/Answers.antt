use Rattle.std.proofs.Common.{◌<◌, ◌+◌, ◌∷◌, [], arith, inl, length, refl, set, subst, sym}
use Rattle.std.proofs.lemmas.List.{length-append, length-set}
use Rattle.om_chirotope.proofs.NumberedSets.{are_numbered, first_fits, number_fits, numbered_turn, numbered_end}
use Rattle.om_threeterm.proofs.SetLaws.{IsFilledBelow, numbers, table_done, table_more}
use Rattle.om_threeterm.proofs.sets.fill.Goals as goal

pub loop-place-init : goal.loop-place-init
loop-place-init c =
    let numbered =
    are_numbered (λ m. m.rank) {w = numbers c.args.elements c.args.size} refl
    c.into_iter-place-iterator.ensures.into_iter_gives c.enumerate-place-items.ensures.source
    c.enumerate-place-items.ensures.count c.all.ensures.sets c.all.ensures.few in
    record {
      can = (tt, tt, inl (first_fits numbered));
      finite = tt;
      numbered = numbered;
      within = omega arith;
      filled = λ j l. absurd (omega (arith, l));
    }

pub returns-then-place-table : goal.returns-then-place-table
returns-then-place-table c =
    let number = (numbered_turn _ _ _ c.loop-place.invariant.numbered c.loop-place.yielded_by c.in-Some.is
    c.next.ensures.steps).number in
    let size = c.loop-place.auto.table in
    let over = c.if-place-table.true in
    table_done c.args.elements c.args.size c.loop-place.table _ (length c.loop-place.yielded) size c.requires.room
    (omega (arith, number, size, over)) c.loop-place.invariant.filled

pub loop-place-preserved : goal.loop-place-preserved
loop-place-preserved c =
    let n = c.args.elements in
    let r = c.args.size in
    let turn = numbered_turn _ _ _ c.loop-place.invariant.numbered c.loop-place.yielded_by c.in-Some.is
    c.next.ensures.steps in
    let number = turn.number in
    let more = length-append c.loop-place.yielded ((c.in-Some.place, c.in-Some.set) ∷ []) in
    let bound = c.loop-place.invariant.within in
    let free = c.if-place-table.false in
    let kept = length-set c.loop-place.table c.in-Some.place c.in-Some.set in
    let within : length c.loop-place.yielded < length c.loop-place.table = omega (arith, number, bound, free) in
    record {
      can = (
        tt,
        tt,
        inl (number_fits _ _ _ c.loop-place.invariant.numbered c.loop-place.yielded_by c.in-Some.is
            c.next.ensures.steps),
      );
      finite = tt;
      numbered = c.loop-place.invariant.numbered;
      within = omega (arith, more, kept, within);
      filled = rw more (subst (λ k. IsFilledBelow n r (set c.loop-place.table k c.in-Some.set)
          (length c.loop-place.yielded + 1)) (sym number)
          (table_more n r c.loop-place.table (length c.loop-place.yielded) c.in-Some.set within turn.turn.at.n_is
          turn.turn.here c.loop-place.invariant.filled));
    }

pub returns : goal.returns
returns c =
    let end = numbered_end _ _ _ c.loop-place.invariant.numbered c.loop-place.yielded_by c.in-None.is
    c.next.ensures.steps in
    let size = c.loop-place.auto.table in
    let room = c.requires.room in
    table_done c.args.elements c.args.size c.loop-place.table _ (length c.loop-place.yielded) size room
    (omega (arith, end, room)) c.loop-place.invariant.filled
