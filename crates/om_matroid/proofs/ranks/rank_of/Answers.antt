use Rattle.std.proofs.Common.{◌+◌, ◌∷◌, [], length, sym, subst, ◌∙◌, arith}
use Rattle.std.proofs.lemmas.Bool.{iff_false}
use Rattle.std.proofs.lemmas.List.{length-append}
use Rattle.om_subsets.specs.Subsets.{IsSubsetFrom}
use Rattle.om_subsets.proofs.SetChains.{all_sets_of, at_turn, number_at_end}
use Rattle.om_matroid.proofs.RankLaws.{IsRankBefore, rank_at_first, rank_raised, rank_kept_small, rank_kept_other}
use Rattle.om_matroid.proofs.RankLaws.{rank_at_last}
use Rattle.om_matroid.proofs.ranks.rank_of.Goals as goal
use Rattle.om_matroid.proofs.ranks.rank_of.Goals.{else-most-size-via-then-most-size+else-is_basis}
use Rattle.om_matroid.proofs.ranks.rank_of.Goals.{else-most-size-via-else-most-size}

pub loop-b-init : goal.loop-b-init
loop-b-init c = (tt, tt, rank_at_first c.args.chi.now c.args.s.elements c.rank.ensures.lawful)

pub intersection-requires : goal.intersection-requires
intersection-requires c =
    (at_turn c.elements.result c.rank.result _ _ _
    (c.into_iter-b-iterator.ensures.into_iter_gives ∙ c.all-b-items.ensures.sets) c.loop-b.yielded_by c.in-Some.is
    c.next.ensures.steps).at.n_is ∙ c.elements.ensures.value ∙ sym c.requires

pub is_basis-requires : goal.is_basis-requires
is_basis-requires c =
    (at_turn c.elements.result c.rank.result _ _ _
    (c.into_iter-b-iterator.ensures.into_iter_gives ∙ c.all-b-items.ensures.sets) c.loop-b.yielded_by c.in-Some.is
    c.next.ensures.steps).at.n_is ∙ c.elements.ensures.value

pub loop-b-preserved-then-is_basis : goal.loop-b-preserved-then-is_basis
loop-b-preserved-then-is_basis c =
    let m = c.args.chi.now in
    let turn =
    at_turn m.elements m.rank _ _ _
    (all_sets_of (c.into_iter-b-iterator.ensures.into_iter_gives ∙ c.all-b-items.ensures.sets)
    c.elements.ensures.value c.rank.ensures.value) c.loop-b.yielded_by c.in-Some.is c.next.ensures.steps in
    let list = subst (λ n. IsSubsetFrom 1 n c.intersection.result.elements) (c.intersection.ensures.n ∙ c.requires)
    c.intersection.ensures.lawful in
    let size = c.size-size.ensures.value in
    let lt = c.if-most-size.true in (
      tt,
      tt,
      rw (length-append c.loop-b.yielded (c.in-Some.b ∷ []), size)
          (rank_raised m c.args.s.elements (length c.loop-b.yielded) c.loop-b.most c.loop-b.invariant.2
          c.in-Some.b.elements c.intersection.result.elements turn.here list c.intersection.ensures.members
          (c.is_basis.ensures.0 c.if-is_basis.true) (omega (arith, size, lt))),
    )

pub loop-b-preserved : goal.loop-b-preserved
loop-b-preserved c =
    let m = c.args.chi.now in
    let turn =
    at_turn m.elements m.rank _ _ _
    (all_sets_of (c.into_iter-b-iterator.ensures.into_iter_gives ∙ c.all-b-items.ensures.sets)
    c.elements.ensures.value c.rank.ensures.value) c.loop-b.yielded_by c.in-Some.is c.next.ensures.steps in
    let list = subst (λ n. IsSubsetFrom 1 n c.intersection.result.elements) (c.intersection.ensures.n ∙ c.requires)
    c.intersection.ensures.lawful in
    let kept : IsRankBefore m c.args.s.elements (length c.loop-b.yielded + 1) c.loop-b.most =
    elim c.else-most-size.branch [
      | else-most-size-via-then-most-size+else-is_basis u ↦
          rank_kept_other m c.args.s.elements (length c.loop-b.yielded) c.loop-b.most c.loop-b.invariant.2
          c.in-Some.b.elements turn.here (iff_false u.is_basis.ensures u.if-is_basis.false)
      | else-most-size-via-else-most-size u ↦
          rank_kept_small m c.args.s.elements (length c.loop-b.yielded) c.loop-b.most c.loop-b.invariant.2
          c.in-Some.b.elements c.intersection.result.elements turn.here list c.intersection.ensures.members
          (let l = c.size-size.ensures.value in let ge = u.if-most-size.false in omega arith)
    ] in
    (tt, tt, rw (length-append c.loop-b.yielded (c.in-Some.b ∷ [])) kept)

pub returns : goal.returns
returns c =
    let m = c.args.chi.now in
    let all =
    number_at_end m.elements m.rank _ _ _
    (all_sets_of (c.into_iter-b-iterator.ensures.into_iter_gives ∙ c.all-b-items.ensures.sets)
    c.elements.ensures.value c.rank.ensures.value) c.loop-b.yielded_by c.in-None.is c.next.ensures.steps in
    rank_at_last m c.args.s.elements c.loop-b.most
    (subst (λ k. IsRankBefore m c.args.s.elements k c.loop-b.most) all c.loop-b.invariant.2)
