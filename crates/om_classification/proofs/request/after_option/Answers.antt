use Rattle.std.proofs.Common.{sym, ◌∙◌}
use Rattle.std.proofs.lemmas.Bool.{true≢false}
use Rattle.om_classification.proofs.WordLaws.{second_at_fault, third_at_fault}
use Rattle.om_classification.proofs.request.after_option.Goals as goal

pub returns-then-not-is_word-clause-usage : goal.returns-then-not-is_word-clause-usage
returns-then-not-is_word-clause-usage c =
    second_at_fault _ _ _ (λ e. absurd (true≢false (sym (c.is_word.ensures.1 e) ∙ c.if-not-is_word.true)))

pub returns-in-len1-up-clause-usage : goal.returns-in-len1-up-clause-usage
returns-in-len1-up-clause-usage c =
    third_at_fault _ _ _ _ (c.is_word.ensures.0 c.if-not-is_word.false) c.in-len1-up.len_at_least
