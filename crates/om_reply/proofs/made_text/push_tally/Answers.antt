use Rattle.std.proofs.lemmas.Result.{on_ok_weaker}
use Rattle.om_reply.proofs.PointTextLaws.{tally_pushed}
use Rattle.om_reply.proofs.made_text.push_tally.Goals as goal

pub returns : goal.returns
returns c = on_ok_weaker c.push.result (λ last.
    tally_pushed c.args.tally.now c.args.text.now.items _ _ _ _ _ _ _ c.in_ok-push_count.ensures
    c.in_ok-push_count-2.ensures c.in_ok-push_count-3.ensures c.in_ok-push_count-4.ensures
    c.in_ok-push_count-5.ensures c.in_ok-push_count-6.ensures last) c.push.ensures.ok
