use Rattle.std.proofs.lemmas.Result.{on_ok_weaker}
use Rattle.om_reply.proofs.MutationLaws.{mutations_pushed}
use Rattle.om_reply.proofs.mutation_text.push_mutations.Goals as goal

pub returns : goal.returns
returns c =
    on_ok_weaker c.push-2.result
    (λ last. mutations_pushed c.args.text.now.items c.args.sets.now _ _ _ _ _ c.in_ok-push.ensures.ok
    c.in_ok-push_decimal.ensures.ok c.in_ok-push_line_feed.ensures.ok c.in_ok-push_sets.ensures last)
    c.push-2.ensures.ok
