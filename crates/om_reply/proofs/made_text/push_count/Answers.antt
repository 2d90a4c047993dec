use Rattle.std.specs.Prelude.{decimal}
use Rattle.std.proofs.Common.{[], ◌∷◌, ◌++◌, ap, ◌∙◌}
use Rattle.std.proofs.lemmas.Result.{on_ok_weaker}
use Rattle.om_reply.proofs.PointTextLaws.{count_pushed}
use Rattle.om_reply.proofs.made_text.push_count.Goals as goal

pub returns : goal.returns
returns c = on_ok_weaker c.push_line_feed.result (λ last.
    last
    ∙ ap (λ y. y ++ 10 ∷ []) (c.in_ok-push_decimal.ensures.ok
    ∙ ap (λ y. y ++ decimal c.args.count) c.in_ok-push.ensures.ok)
    ∙ count_pushed c.args.text.now.items c.args.name.now (decimal c.args.count)) c.push_line_feed.ensures.ok
