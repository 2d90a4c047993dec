use Rattle.std.proofs.Common.{◌∙◌, ap, length, arith}
use Rattle.om_subsets.specs.Subsets.{choose}
use Rattle.om_subsets.proofs.SetChains.{at_turn, mapped_more, mapped_at_end}
use Rattle.om_text.proofs.RevlexValues.{value_at, value_is}
use Rattle.om_text.proofs.revlex.values_from_revlex.Goals as goal

pub at-requires : goal.at-requires
at-requires c =
    let turn =
    at_turn c.args.map.now.elements c.args.map.now.rank _ _ _
    (c.into_iter-set-iterator.ensures.into_iter_gives ∙ c.all-set-items.ensures.sets) c.loop-set.yielded_by
    c.in-Some.is c.next.ensures.steps in
    let many = ap (λ n. choose n (length c.in-Some.set.elements)) turn.at.n_is
    ∙ ap (choose c.args.map.now.elements) turn.at.size in
    let small = c.rank_revlex.ensures.small in
    let all = c.requires.signs in
    omega (arith, many, small, all)

pub loop-set-preserved : goal.loop-set-preserved
loop-set-preserved c = (
  tt,
  tt,
  c.in_ok-push.ensures.ok
      ∙ mapped_more (value_at c.args.map.now) c.loop-set.yielded c.in-Some.set c.loop-set.signs c.at.result
      c.loop-set.invariant.2
      (value_is c.args.map.now c.in-Some.set.elements c.rank_revlex.result c.at.result c.rank_revlex.ensures.value
      c.at.ensures),
)

pub returns : goal.returns
returns c =
    mapped_at_end c.args.map.now.elements c.args.map.now.rank (value_at c.args.map.now) _ _ _ _ c.loop-set.invariant.2
    (c.into_iter-set-iterator.ensures.into_iter_gives ∙ c.all-set-items.ensures.sets) c.loop-set.yielded_by c.in-None.is
    c.next.ensures.steps
