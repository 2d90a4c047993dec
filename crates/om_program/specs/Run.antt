-- What a run has written, beside what its words and its input mean.
use Rattle.std.specs.Prelude.{ℕ, ◌≡◌, ◌+◌, ◌⊎◌, List, length, map, min, IfSome, Option, String}
use Rattle.std.specs.Prelude.{string_bytes}
use Rattle.std.specs.Io.KnownBytes.{Appends}
use Rattle.om_signs.specs.declared.limits.TheConstants.{MAX_INPUT}
use Rattle.om_port.specs.Causes.{TakesExactly}
use Rattle.om_words.specs.declared.reads.Reads.TheVariants as kind
use Rattle.om_words.specs.declared.task.Task.{Task}
use Rattle.om_words.specs.Tasks.{reads}
use Rattle.om_words.specs.Words.{AreCommand, Names}
use Rattle.om_reply.specs.Written.{IsFront}
use Rattle.om_reply.specs.declared.status.Status.{Status}
use Rattle.om_reply.specs.declared.answer.Answer.{Answer}
use Rattle.om_reply.specs.Answers.{status_of, text_of}
use Rattle.om_program.specs.Meaning.{Means, TaskMeans}

-- the bytes of each word
abbrev pub bytes_of : {Z : Type 0} → List (String Z) → List (List ℕ)
bytes_of words = map string_bytes words

-- the words aren't a command, or are a command that reads nothing
abbrev pub ReadNothing : List (List ℕ) → Type 0
ReadNothing words = (AreCommand words → ⊥) ⊎ ((task : Task) × (Names words task × (reads task ≡ kind.Nothing)))

-- if the source tells the bytes that it had left: exactly these were taken, up to one byte more than the limit on
-- inputs
abbrev pub TakesInput : Option (List ℕ) → Option (List ℕ) → Type 0
TakesInput old new = IfSome old (λ bytes. TakesExactly (min (length bytes) (MAX_INPUT + 1)) old new)

-- if the source tells the bytes that it had left, the answer is what they mean
abbrev pub IsMeantBy : (List ℕ → Answer → Type 0) → Option (List ℕ) → Answer → Type 0
IsMeantBy Meaning left answer = IfSome left (λ bytes. Meaning bytes answer)

-- an answer with this meaning and this status was written whole
abbrev pub IsWhole : (Answer → Type 0) → Status → Option (List ℕ) → Option (List ℕ) → Type 0
IsWhole Meaning status old new = (answer : Answer)
    × (Meaning answer × ((status ≡ status_of answer) × Appends old new (text_of answer)))

-- an answer with this meaning was begun, but not finished
abbrev pub IsCutOff : (Answer → Type 0) → Option (List ℕ) → Option (List ℕ) → Type 0
IsCutOff Meaning old new = (answer : Answer) × (Meaning answer × IsFront old new (text_of answer))

-- If the source tells the bytes that it had left: the status, and the bytes that the sink has taken, are those that
-- the words and these bytes mean.
abbrev pub IsAnswer : List (List ℕ) → Option (List ℕ) → Status → Option (List ℕ) → Option (List ℕ) → Type 0
IsAnswer words left status old new = IfSome left (λ bytes. IsWhole (Means words bytes) status old new)

-- if the source tells the bytes that it had left: an answer that the words and these bytes mean was begun, but not
-- finished
abbrev pub IsCutOffAnswer : List (List ℕ) → Option (List ℕ) → Option (List ℕ) → Option (List ℕ) → Type 0
IsCutOffAnswer words left old new = IfSome left (λ bytes. IsCutOff (Means words bytes) old new)

-- `IsAnswer` for a task in place of words
abbrev pub IsTaskAnswer : Task → Option (List ℕ) → Status → Option (List ℕ) → Option (List ℕ) → Type 0
IsTaskAnswer task left status old new = IfSome left (λ bytes. IsWhole (TaskMeans task bytes) status old new)

-- `IsCutOffAnswer` for a task in place of words
abbrev pub IsCutOffTask : Task → Option (List ℕ) → Option (List ℕ) → Option (List ℕ) → Type 0
IsCutOffTask task left old new = IfSome left (λ bytes. IsCutOff (TaskMeans task bytes) old new)
