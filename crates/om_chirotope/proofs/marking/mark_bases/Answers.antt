use Rattle.std.proofs.Common.{arith, refl, sym, ap, inl, subst, ◌∙◌, ◌<◌, ◌^◌, length}
use Rattle.std.proofs.lemmas.Bool.{false≢true}
use Rattle.om_subsets.specs.Subsets.{rank_of, IsSubsetFrom}
use Rattle.om_chirotope.proofs.Marks.{all_marked, none_marked, turn_left_out, turn_marked}
use Rattle.om_chirotope.proofs.NumberedSets.{are_numbered, first_fits, number_fits, numbered_turn, numbered_end}
use Rattle.om_chirotope.proofs.marking.mark_bases.Goals as goal

pub loop-place-init : goal.loop-place-init
loop-place-init c =
    let numbered =
    are_numbered (λ m. m.rank) c.map.view_is c.into_iter-place-iterator.ensures.into_iter_gives
    c.enumerate-place-items.ensures.source c.enumerate-place-items.ensures.count c.all.ensures.sets c.all.ensures.few in
    record {
      can = (tt, tt, inl (first_fits numbered));
      finite = tt;
      numbered = numbered;
      marked = none_marked c.args.map.now c.args.words.now c.requires.room c.requires.clear;
    }

pub sign_of-requires : goal.sign_of-requires
sign_of-requires c =
    let turn = numbered_turn _ _ _ c.loop-place.invariant.numbered c.loop-place.yielded_by c.in-Some.is
    c.next.ensures.steps in
    let at = turn.turn.at in
    record {
      n = at.n_is;
      size = at.size;
      place = turn.number ∙ sym (at.place turn.turn.inside)
          ∙ ap (λ n. rank_of n c.in-Some.b.elements) (sym at.n_is);
      list = subst (λ n. IsSubsetFrom 1 n c.in-Some.b.elements) (sym at.n_is) at.list;
    }

pub mark-requires : goal.mark-requires
mark-requires c =
    let turn = (numbered_turn _ _ _ c.loop-place.invariant.numbered c.loop-place.yielded_by c.in-Some.is
    c.next.ensures.steps).turn in
    let within : c.mask.result < 2 ^ c.args.map.now.elements =
    subst (λ y. c.mask.result < 2 ^ y) turn.at.n_is c.mask.ensures.bits.within in
    let room = c.loop-place.invariant.marked.room in
    omega (arith, within, room)

pub loop-place-preserved-then-is_nonzero : goal.loop-place-preserved-then-is_nonzero
loop-place-preserved-then-is_nonzero c =
    let m = c.args.map.now in
    let turn = (numbered_turn _ _ _ c.loop-place.invariant.numbered c.loop-place.yielded_by c.in-Some.is
    c.next.ensures.steps).turn in
    let fits = number_fits _ _ _ c.loop-place.invariant.numbered c.loop-place.yielded_by c.in-Some.is
    c.next.ensures.steps in
    record {
      can = (tt, tt, inl fits);
      finite = tt;
      numbered = c.loop-place.invariant.numbered;
      marked = turn_marked m c.loop-place.words c.mark.new.words c.loop-place.yielded _ c.mask.result c.in-Some.b turn
          c.mask.ensures.value (λ z. c.if-is_nonzero.ensures.0 refl (c.sign_of.ensures.value ∙ z)) c.mark.auto.words
          c.mark.ensures.here c.mark.ensures.others c.loop-place.invariant.marked;
    }

pub loop-place-preserved : goal.loop-place-preserved
loop-place-preserved c =
    let m = c.args.map.now in
    let turn = (numbered_turn _ _ _ c.loop-place.invariant.numbered c.loop-place.yielded_by c.in-Some.is
    c.next.ensures.steps).turn in
    let fits = number_fits _ _ _ c.loop-place.invariant.numbered c.loop-place.yielded_by c.in-Some.is
    c.next.ensures.steps in
    record {
      can = (tt, tt, inl fits);
      finite = tt;
      numbered = c.loop-place.invariant.numbered;
      marked = turn_left_out m c.loop-place.words c.loop-place.yielded _ c.in-Some.b turn
          (λ nonzero. false≢true (c.if-is_nonzero.ensures.1 (λ z. nonzero (sym c.sign_of.ensures.value ∙ z))))
          c.loop-place.invariant.marked;
    }

pub returns : goal.returns
returns c =
    let end = numbered_end _ _ _ c.loop-place.invariant.numbered c.loop-place.yielded_by c.in-None.is
    c.next.ensures.steps in
    all_marked c.args.map.now c.loop-place.words (length c.loop-place.yielded) (omega (arith, end))
    c.loop-place.invariant.marked
