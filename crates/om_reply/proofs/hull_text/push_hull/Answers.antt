use Rattle.std.proofs.lemmas.Result.{on_ok_weaker}
use Rattle.om_reply.proofs.HullLaws.{hull_pushed}
use Rattle.om_reply.proofs.hull_text.push_hull.Goals as goal

pub returns : goal.returns
returns c =
    on_ok_weaker c.push-2.result
    (λ last. hull_pushed c.args.text.now.items c.args.items.now _ _ _ c.in_ok-push.ensures.ok c.in_ok-push_items.ensures
    last) c.push-2.ensures.ok
