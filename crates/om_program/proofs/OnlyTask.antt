-- The task that words name, where they name no other one.
--
-- Main definitions: IsOnlyTask
-- Main results: only_task, no_task; what it reads (same_nothing, nothing_read, command_read)
use Rattle.std.specs.Prelude.{ℕ, ◌≡◌, ◌≢◌, ◌↔◌, List, Ok, Err, Result, refl}
use Rattle.std.proofs.Common.{sym, subst, inl, inr}
use Rattle.om_signs.proofs.Results.{err-ne-ok, ok-injective}
use Rattle.om_printing.specs.declared.usage.Usage.{Usage}
use Rattle.om_words.specs.declared.reads.Reads.TheVariants as source
use Rattle.om_words.specs.declared.task.Task.{Task}
use Rattle.om_words.specs.ReadingCommands.{AreReadingCommand}
use Rattle.om_words.specs.Tasks.{reads}
use Rattle.om_words.specs.Words.{Names}
use Rattle.om_program.specs.Run.{ReadNothing}

pub record IsOnlyTask (words : List (List ℕ)) (t : Task) : Type 0 where
  pub named : Names words t
  pub one : (s : Task) → Names words s → s ≡ t

pub only_task : (words : List (List ℕ)) (t : Task)
    → ((s : Task) → ◌≡◌ {A = Result Task Usage} (Ok t) (Ok s) ↔ Names words s) → IsOnlyTask words t
only_task words t task =
    record { named = (task t).0 refl; one = λ s named. sym (ok-injective _ _ ((task s).1 named)) }

pub no_task : (words : List (List ℕ)) (usage : Usage)
    → ((s : Task) → ◌≡◌ {A = Result Task Usage} (Err usage) (Ok s) ↔ Names words s) → (s : Task) → Names words s → ⊥
no_task words usage task s named = err-ne-ok _ _ ((task s).1 named)

-- if some task that the words name reads nothing, it does
pub same_nothing : {words : List (List ℕ)} {t : Task} → IsOnlyTask words t → (s : Task) → Names words s
    → reads s ≡ source.Nothing → reads t ≡ source.Nothing
same_nothing only s named nothing = subst (λ k. reads k ≡ source.Nothing) (only.one s named) nothing

-- if the words read nothing, it does
pub nothing_read : {words : List (List ℕ)} {t : Task} → IsOnlyTask words t → ReadNothing words
    → reads t ≡ source.Nothing
nothing_read {t = t} only (inl none) = absurd (none (t, only.named))
nothing_read only (inr (s, (named, nothing))) = same_nothing only s named nothing

-- if the words are a command that reads, it reads
pub command_read : {words : List (List ℕ)} {t : Task} → IsOnlyTask words t → AreReadingCommand words
    → reads t ≢ source.Nothing
command_read only (s, (named, reading)) = subst (λ k. reads k ≢ source.Nothing) (only.one s named) reading
