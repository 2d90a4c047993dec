use Rattle.std.specs.Prelude.{◌≡◌, ◌↔◌, Ok, map, string_bytes}
use Rattle.std.proofs.Common.{sym, subst}
use Rattle.om_words.specs.Words.{Names}
use Rattle.om_words.proofs.ArgumentLaws.{no_value}
use Rattle.om_words.proofs.TaskLaws.{lawful_task}
use Rattle.om_words.proofs.WordLaws.{no_words_at_fault, no_words_named, first_and_rest}
use Rattle.om_words.proofs.words.command.Goals as goal

pub returns-in-empty-clause-task : goal.returns-in-empty-clause-task
returns-in-empty-clause-task c =
    λ task. (
      λ same. absurd (no_value _ task same),
      λ named. absurd (no_words_named _ _ task c.in-empty.len_below named),
    )

pub returns-in-empty-clause-usage : goal.returns-in-empty-clause-usage
returns-in-empty-clause-usage c = no_words_at_fault _ _ c.in-empty.len_below

pub returns-in-len1-up-clause-task : goal.returns-in-len1-up-clause-task
returns-in-len1-up-clause-task c =
    λ task. subst (λ words. (c.after_first.result ≡ Ok task) ↔ Names (map string_bytes words) task)
    (sym (first_and_rest _ _ c.in-len1-up.len_at_least c.first-item.is)) (c.after_first.ensures.task task)

pub returns-in-len1-up-clause-lawful : goal.returns-in-len1-up-clause-lawful
returns-in-len1-up-clause-lawful c = lawful_task _ _ c.after_first.ensures.task
