use Rattle.std.proofs.Common.{◌∙◌, ap, ◌++◌, [], ◌∷◌, arith}
use Rattle.std.proofs.lemmas.Grind.{common_steps}
use Rattle.om_reply.proofs.MutationLaws.{sets_more}
use Rattle.om_reply.proofs.mutation_text.push_sets.Goals as goal

pub loop-set-preserved : goal.loop-set-preserved
loop-set-preserved c = sets_more c.args.text.now.items _ _ c.args.sets.now c.loop-set.set-index c.set-item.result
    c.loop-set-test.true c.set-item.is c.loop-set.invariant
    (c.in_ok-push_line_feed.ensures.ok ∙ ap (λ y. y ++ 10 ∷ []) c.in_ok-push_subset.ensures.ok)

pub returns : goal.returns
returns c = grind (arith, common_steps)
