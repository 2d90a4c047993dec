use Rattle.std.proofs.Common.{sym, ◌∙◌}
use Rattle.std.proofs.lemmas.Bool.{true≢false}
use Rattle.std.proofs.lemmas.Option.{none-some}
use Rattle.om_classification.proofs.WordLaws.{first_at_fault}
use Rattle.om_classification.proofs.request.after_first.Goals as goal

pub returns-in-None-clause-usage : goal.returns-in-None-clause-usage
returns-in-None-clause-usage c =
    first_at_fault _ _ (λ e. absurd (true≢false (sym (c.is_word.ensures.1 e) ∙ c.if-is_word.false)))
    (λ family word. none-some family (sym c.in-None.is ∙ (c.named_family.ensures family).1 word))
