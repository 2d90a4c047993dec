use Rattle.std.proofs.Common.{arith, inl, refl}
use Rattle.om_chirotope.specs.Map.{map_of}
use Rattle.om_chirotope.proofs.NumberedSets.{are_numbered, first_fits, number_fits, numbered_turn, numbered_end}
use Rattle.om_minors.proofs.Turning.{turned_on, turned_all}
use Rattle.om_minors.proofs.reorientation.turned.Goals as goal

pub loop-place-init : goal.loop-place-init
loop-place-init c =
    let numbered =
    are_numbered (λ m. m.rank) {w = map_of c.args.raw} refl c.into_iter-place-iterator.ensures.into_iter_gives
    c.enumerate-place-items.ensures.source c.enumerate-place-items.ensures.count c.all.ensures.sets c.all.ensures.few in
    record {
      can = (tt, tt, inl (first_fits numbered));
      finite = tt;
      numbered = numbered;
      rank = refl;
      elements = refl;
      turned = record { size = c.requires.whole; done = λ j l. absurd (omega (arith, l)); rest = λ j l. refl };
    }

pub at-sign-requires : goal.at-sign-requires
at-sign-requires c =
    let turn = numbered_turn _ _ _ c.loop-place.invariant.numbered c.loop-place.yielded_by c.in-Some.is
    c.next.ensures.steps in
    let number = turn.number in
    let inside = turn.turn.inside in
    let size = c.loop-place.invariant.turned.size in
    omega (arith, number, inside, size)

pub set-requires : goal.set-requires
set-requires c =
    let turn = numbered_turn _ _ _ c.loop-place.invariant.numbered c.loop-place.yielded_by c.in-Some.is
    c.next.ensures.steps in
    let number = turn.number in
    let inside = turn.turn.inside in
    let size = c.loop-place.invariant.turned.size in
    omega (arith, number, inside, size)

pub loop-place-preserved : goal.loop-place-preserved
loop-place-preserved c =
    let inv = c.loop-place.invariant in
    record {
      can = (tt, tt, inl (number_fits _ _ _ inv.numbered c.loop-place.yielded_by c.in-Some.is c.next.ensures.steps));
      finite = tt;
      numbered = inv.numbered;
      rank = inv.rank;
      elements = inv.elements;
      turned = turned_on (map_of c.args.raw) c.args.mask c.loop-place.turned.signs c.set.new.self c.loop-place.yielded
          (c.in-Some.place, c.in-Some.s) c.times.result c.at-sign.result c.turning_sign.result
          (numbered_turn _ _ _ inv.numbered c.loop-place.yielded_by c.in-Some.is c.next.ensures.steps)
          c.at-sign.ensures c.turning_sign.ensures c.times.ensures c.set.ensures inv.turned;
    }

pub returns : goal.returns
returns c =
    let inv = c.loop-place.invariant in
    let end = numbered_end _ _ _ inv.numbered c.loop-place.yielded_by c.in-None.is c.next.ensures.steps in
    turned_all (map_of c.args.raw) c.args.mask c.loop-place.turned.signs c.loop-place.turned.rank
    c.loop-place.turned.elements _ inv.rank inv.elements inv.turned.size (omega (arith, end)) inv.turned.done
