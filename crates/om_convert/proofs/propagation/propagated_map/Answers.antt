use Rattle.std.proofs.Common.{◌∷◌, [], ◌∙◌, length, subst, sym}
use Rattle.std.proofs.lemmas.List.{length-append}
use Rattle.om_members.specs.Listings.{HaveLength}
use Rattle.om_subsets.specs.Subsets.{IsSubsetFrom}
use Rattle.om_subsets.proofs.SetChains.{at_turn, number_at_end}
use Rattle.om_convert.proofs.NormalSigns.{signs_start, signs_before, place_is, signs_pushed, signs_are}
use Rattle.om_convert.proofs.propagation.propagated_map.Goals as goal

pub loop-t-init : goal.loop-t-init
loop-t-init c = (
  tt,
  tt,
  signs_start c.args.elements c.args.rank c.args.vectors.now c.new-signs.result c.new-signs.ensures,
)

pub sign_of-sign-requires-clause-lengths : goal.sign_of-sign-requires-clause-lengths
sign_of-sign-requires-clause-lengths c =
    let turn = at_turn c.args.elements c.args.rank _ _ _
    (c.into_iter-t-iterator.ensures.into_iter_gives ∙ c.all-t-items.ensures.sets) c.loop-t.yielded_by c.in-Some.is
    c.next.ensures.steps in
    subst (λ n. HaveLength n c.args.vectors.now) (sym turn.at.n_is) c.requires.lengths

pub sign_of-sign-requires-clause-lawful : goal.sign_of-sign-requires-clause-lawful
sign_of-sign-requires-clause-lawful c =
    let turn = at_turn c.args.elements c.args.rank _ _ _
    (c.into_iter-t-iterator.ensures.into_iter_gives ∙ c.all-t-items.ensures.sets) c.loop-t.yielded_by c.in-Some.is
    c.next.ensures.steps in
    subst (λ n. IsSubsetFrom 1 n c.in-Some.t.elements) (sym turn.at.n_is) turn.at.list

pub sign_of-sign-requires-clause-place : goal.sign_of-sign-requires-clause-place
sign_of-sign-requires-clause-place c =
    let turn = at_turn c.args.elements c.args.rank _ _ _
    (c.into_iter-t-iterator.ensures.into_iter_gives ∙ c.all-t-items.ensures.sets) c.loop-t.yielded_by c.in-Some.is
    c.next.ensures.steps in
    place_is c.args.elements c.args.rank c.args.vectors.now (length c.loop-t.yielded) c.in-Some.t.n c.loop-t.signs
    c.as_slice.result.now c.in-Some.t.elements c.loop-t.invariant.2 turn.at.n_is (turn.at.place turn.inside)
    c.as_slice.ensures

pub loop-t-preserved : goal.loop-t-preserved
loop-t-preserved c =
    let turn = at_turn c.args.elements c.args.rank _ _ _
    (c.into_iter-t-iterator.ensures.into_iter_gives ∙ c.all-t-items.ensures.sets) c.loop-t.yielded_by c.in-Some.is
    c.next.ensures.steps in
    let first = signs_before c.args.elements c.args.rank c.args.vectors.now (length c.loop-t.yielded) c.in-Some.t.n
    c.loop-t.signs c.as_slice.result.now c.in-Some.t.elements c.loop-t.invariant.2 turn.at.n_is turn.at.size
    c.as_slice.ensures in (
      tt,
      tt,
      rw (length-append c.loop-t.yielded (c.in-Some.t ∷ []))
          (signs_pushed c.args.elements c.args.rank c.args.vectors.now (length c.loop-t.yielded) c.in-Some.t.n
          c.loop-t.signs c.push.new.self c.as_slice.result.now c.sign_of-sign.result c.in-Some.t.elements
          c.loop-t.invariant.2 turn.at.n_is turn.at.size c.as_slice.ensures c.in_ok-push.ensures.ok
          (c.sign_of-sign.ensures first)),
    )

pub returns-clause-whole : goal.returns-clause-whole
returns-clause-whole c =
    c.loop-t.invariant.2.size
    ∙ number_at_end c.args.elements c.args.rank _ _ _
    (c.into_iter-t-iterator.ensures.into_iter_gives ∙ c.all-t-items.ensures.sets) c.loop-t.yielded_by c.in-None.is
    c.next.ensures.steps

pub returns-clause-normal : goal.returns-clause-normal
returns-clause-normal c =
    signs_are c.args.elements c.args.rank c.args.vectors.now (length c.loop-t.yielded) c.loop-t.signs
    c.loop-t.invariant.2
    (number_at_end c.args.elements c.args.rank _ _ _
    (c.into_iter-t-iterator.ensures.into_iter_gives ∙ c.all-t-items.ensures.sets) c.loop-t.yielded_by c.in-None.is
    c.next.ensures.steps)
