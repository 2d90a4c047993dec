use Rattle.std.proofs.Common.{ap, ◌++◌, ◌∙◌}
use Rattle.om_reply.specs.HullTexts.{hull_text}
use Rattle.om_reply.proofs.hull_text.print_hull.Goals as goal

pub returns : goal.returns
returns c = c.in_ok-push_hull.ensures ∙ ap (λ y. y ++ hull_text c.args.items.now) c.new-text.ensures.items
