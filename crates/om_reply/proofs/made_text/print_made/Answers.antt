use Rattle.std.proofs.Common.{◌++◌, ap, ◌∙◌}
use Rattle.om_document.specs.Print.{text_of}
use Rattle.om_reply.specs.MadeTexts.{tally_lines}
use Rattle.om_reply.proofs.made_text.print_made.Goals as goal

pub returns : goal.returns
returns c = c.in_ok-push_tally.ensures ∙ ap (λ y. y ++ text_of (tally_lines c.args.tally.now)) c.in_ok-text.ensures
