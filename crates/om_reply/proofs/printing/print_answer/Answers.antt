use Rattle.std.proofs.lemmas.Result.{IfOk-weaker}
use Rattle.std.proofs.Common.{ap, ◌∙◌}
use Rattle.om_reply.specs.HullTexts.{hull_text}
use Rattle.om_reply.specs.MutationTexts.{mutations_text}
use Rattle.om_reply.proofs.printing.print_answer.Goals as goal

pub returns-in-Mutations : goal.returns-in-Mutations
returns-in-Mutations c =
    rw c.in-Mutations.is
    (IfOk-weaker c.print_mutations.result _ _ (λ text bytes. bytes ∙ ap mutations_text c.as_slice.ensures)
    c.print_mutations.ensures)

pub returns-in-Hull : goal.returns-in-Hull
returns-in-Hull c =
    rw c.in-Hull.is
    (IfOk-weaker c.print_hull.result _ _ (λ text bytes. bytes ∙ ap hull_text c.as_slice-in-Hull.ensures)
    c.print_hull.ensures)

pub returns-in-Made : goal.returns-in-Made
returns-in-Made c = rw c.in-Made.is c.print_made.ensures
