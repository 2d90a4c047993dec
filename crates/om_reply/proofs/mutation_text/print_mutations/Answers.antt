use Rattle.std.proofs.Common.{ap, ◌++◌, ◌∙◌}
use Rattle.om_reply.specs.MutationTexts.{mutations_text}
use Rattle.om_reply.proofs.mutation_text.print_mutations.Goals as goal

pub returns : goal.returns
returns c = c.in_ok-push_mutations.ensures ∙ ap (λ y. y ++ mutations_text c.args.sets.now) c.new-text.ensures.items
