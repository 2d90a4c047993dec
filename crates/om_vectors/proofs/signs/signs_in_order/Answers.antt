use Rattle.std.proofs.Common.{◌∙◌, length}
use Rattle.om_subsets.proofs.SetChains.{at_turn, mapped_more, mapped_at_end}
use Rattle.om_vectors.specs.Realizations.{triple_sign}
use Rattle.om_vectors.proofs.signs.signs_in_order.Goals as goal

pub sign_of_triple-requires : goal.sign_of_triple-requires
sign_of_triple-requires c =
    let turn =
    at_turn (length c.args.vectors.now) 3 _ _ _
    (c.into_iter-s-iterator.ensures.into_iter_gives ∙ c.all-s-items.ensures.sets) c.loop-s.yielded_by c.in-Some.is
    c.next.ensures.steps in
    record { n = turn.at.n_is; size = turn.at.size }

pub loop-s-preserved : goal.loop-s-preserved
loop-s-preserved c = (
  tt,
  tt,
  c.in_ok-push.ensures.ok
      ∙ mapped_more (triple_sign c.args.vectors.now) c.loop-s.yielded c.in-Some.s c.loop-s.signs
      c.sign_of_triple.result c.loop-s.invariant.2 c.sign_of_triple.ensures,
)

pub returns : goal.returns
returns c =
    mapped_at_end (length c.args.vectors.now) 3 (triple_sign c.args.vectors.now) _ _ _ _ c.loop-s.invariant.2
    (c.into_iter-s-iterator.ensures.into_iter_gives ∙ c.all-s-items.ensures.sets) c.loop-s.yielded_by c.in-None.is
    c.next.ensures.steps
