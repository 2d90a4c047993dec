use Rattle.std.specs.Prelude.{◌≡◌, ◌↔◌, ◌∷◌, Ok, map, string_bytes, IfErr}
use Rattle.std.proofs.Common.{refl, sym, subst}
use Rattle.om_words.specs.Words.{Names, IsUsage}
use Rattle.om_words.proofs.ArgumentLaws.{none_some, no_value}
use Rattle.om_words.proofs.WordLaws.{first_at_fault, first_named}
use Rattle.om_words.proofs.words.after_first.Goals as goal

pub returns-in-Some-clause-task : goal.returns-in-Some-clause-task
returns-in-Some-clause-task c = λ task.
    let word = (c.in-Some.ensures c.in-Some.verb).0 refl in
    subst (λ w. (c.after_verb.result ≡ Ok task) ↔ Names (w ∷ map string_bytes c.args.rest.now) task) (sym word)
    (c.after_verb.ensures.task task)

pub returns-in-Some-clause-usage : goal.returns-in-Some-clause-usage
returns-in-Some-clause-usage c =
    let word = (c.in-Some.ensures c.in-Some.verb).0 refl in
    subst (λ w. IfErr c.after_verb.result (λ usage. IsUsage (w ∷ map string_bytes c.args.rest.now) usage.word))
    (sym word) c.after_verb.ensures.usage

pub returns-in-None-clause-task : goal.returns-in-None-clause-task
returns-in-None-clause-task c = λ task. (
  λ same. absurd (no_value _ task same),
  λ named. absurd
      (first_named _ _ task (λ verb word. none_some verb c.in-None.is ((c.named_verb.ensures verb).1 word)) named),
)

pub returns-in-None-clause-usage : goal.returns-in-None-clause-usage
returns-in-None-clause-usage c =
    first_at_fault _ _ (λ verb word. none_some verb c.in-None.is ((c.named_verb.ensures verb).1 word))
