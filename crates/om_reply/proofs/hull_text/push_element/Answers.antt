use Rattle.std.specs.Prelude.{decimal}
use Rattle.std.proofs.Common.{[], ◌∷◌, ◌++◌, ap, ◌∙◌}
use Rattle.std.proofs.lemmas.Result.{on_ok_weaker}
use Rattle.om_printing.specs.Texts.{signs_text}
use Rattle.om_reply.proofs.HullLaws.{element_pushed}
use Rattle.om_reply.proofs.hull_text.push_element.Goals as goal

pub returns : goal.returns
returns c = on_ok_weaker c.push_line_feed.result (λ last.
    last
    ∙ ap (λ y. y ++ 10 ∷ []) (c.in_ok-push_vector.ensures.ok
    ∙ ap (λ y. y ++ signs_text c.args.x) (c.in_ok-push-3.ensures.ok
    ∙ ap (λ y. y ++ 32 ∷ []) (c.in_ok-push_decimal.ensures.ok
    ∙ ap (λ y. y ++ decimal c.args.e) (c.in_ok-push-2.ensures.ok
    ∙ ap (λ y. y ++ 32 ∷ []) c.in_ok-push.ensures.ok))))
    ∙ element_pushed c.args.text.now.items c.args.word.now (decimal c.args.e) (signs_text c.args.x))
    c.push_line_feed.ensures.ok
