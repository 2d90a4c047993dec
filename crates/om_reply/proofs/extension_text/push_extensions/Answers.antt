use Rattle.std.proofs.lemmas.Result.{on_ok_weaker}
use Rattle.om_reply.proofs.SignatureLaws.{extensions_pushed}
use Rattle.om_reply.proofs.extension_text.push_extensions.Goals as goal

pub returns : goal.returns
returns c = on_ok_weaker c.push_line_feed-2.result (λ last.
    extensions_pushed c.args.text.now.items c.args.elements c.args.listing.now _ _ _ _ _ _ _ _ _ c.from.ensures
    c.as_slice.ensures c.last_word.ensures c.in_ok-push.ensures.ok c.in_ok-push_decimal.ensures.ok
    c.in_ok-push_line_feed.ensures.ok c.in_ok-push_signatures.ensures c.in_ok-push-2.ensures.ok last)
    c.push_line_feed-2.ensures.ok
