use Rattle.std.proofs.Common.{ap, ◌++◌, ◌∙◌}
use Rattle.om_reply.specs.ExtensionTexts.{extensions_text}
use Rattle.om_reply.proofs.extension_text.print_extensions.Goals as goal

pub returns : goal.returns
returns c = c.in_ok-push_extensions.ensures
    ∙ ap (λ y. y ++ extensions_text c.args.elements c.args.listing.now) c.new-text.ensures.items
