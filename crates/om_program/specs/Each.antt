-- What a run over many pieces has written.
use Rattle.std.specs.Prelude.{ℕ, ◌≡◌, ◌≢◌, ◌≤◌, ◌⊎◌, ◌-◌, ◌^◌, ◌++◌, ◌∷◌, List, Option}
use Rattle.std.specs.Prelude.{None, IfSome, unwrap_or}
use Rattle.std.specs.Io.KnownBytes.{Appends, Consumes}
use Rattle.om_words.specs.declared.reads.Reads.TheVariants as kind
use Rattle.om_words.specs.declared.task.Task.{Task}
use Rattle.om_words.specs.Tasks.{reads}
use Rattle.om_words.specs.Words.{Names}
use Rattle.om_words.specs.ReadingCommands.{IsReadingUsage, wanted_ends}
use Rattle.om_printing.specs.Texts.{line_text}
use Rattle.om_printing.specs.declared.line.Line.TheVariants as line
use Rattle.om_reply.specs.declared.status.Status.{Status}
use Rattle.om_reply.specs.declared.status.Status.TheVariants as status
use Rattle.om_program.specs.Meaning.{Means}
use Rattle.om_reply.specs.Written.{IsFront}
use Rattle.om_program.specs.Answered.{AreAnswered, AreWritten, AreCutOff, IsUpToDate, Stops, Breaks}
use Rattle.om_pieces.specs.Making.{made, nothing}
use Rattle.om_pieces.specs.Pieces.{IsCut}
use Rattle.om_port.specs.Causes.{Rose, TakesAtLeast, TakesSome}
use Rattle.om_reply.specs.declared.answer.Answer.{Answer}
use Rattle.om_reply.specs.Statuses.{IsAnswered}

-- the words are a command that reads, and a piece of its input closes with its `end` line number n
abbrev pub AreForPieces : List (List ℕ) → ℕ → Type 0
AreForPieces words n =
    (task : Task) × (Names words task × ((reads task ≢ kind.Nothing) × (n ≡ wanted_ends (reads task))))

-- the bytes are cut into pieces, the text of each was written, and the status is the greatest of theirs
abbrev pub IsEachAnswered : List (List ℕ) → ℕ → List ℕ → Status → Option (List ℕ) → Option (List ℕ) → Type 0
IsEachAnswered words n bytes s old new =
    (pieces : List (List ℕ)) × (IsCut n bytes pieces × AreAnswered (Means words) pieces status.Done s old new)

-- the texts of the first pieces were written, each whole
abbrev pub AreFirstWritten : List (List ℕ) → ℕ → List ℕ → Option (List ℕ) → Option (List ℕ) → Type 0
AreFirstWritten words n bytes old new =
    (first : List (List ℕ)) × ((left : List (List ℕ)) ×
    (IsCut n bytes (first ++ left) × AreWritten (Means words) first old new))

-- the texts of the first pieces were written, each whole, and that of the next one was begun, but not finished
abbrev pub IsNextCutOff : List (List ℕ) → ℕ → List ℕ → Option (List ℕ) → Option (List ℕ) → Type 0
IsNextCutOff words n bytes old new =
    (first : List (List ℕ)) × ((piece : List ℕ) ×
    ((left : List (List ℕ)) × (IsCut n bytes (first ++ piece ∷ left) × AreCutOff
    (Means words) first piece old new)))

-- how a run ends: without a status, since no reading is left, as for want of memory
abbrev pub ended : Option Status → Status
ended result = unwrap_or result status.NoMemory

-- all bytes were taken
abbrev pub TakesAll : Option (List ℕ) → Option (List ℕ) → Type 0
TakesAll old new = IfSome old (λ bytes. Consumes old new bytes)

-- What a run on the pieces of a source has done that ends so. A piece closes with its `end` line number n. The source
-- had and has these bytes left, and the sink had and has taken these. Each of the two has a count of faults, before and
-- after the run. There is no status only if the source gave a byte at each of 2^64 - 1 readings.
pub record IsCourse (Meaning : List ℕ → Answer → Type 0) (n : ℕ) (result : Option Status) (left rest : Option (List ℕ))
    (Ready : Type 0) (faults faults_now : ℕ) (old new : Option (List ℕ)) (cuts cuts_now : ℕ) : Type 0 where
  pub answer : IsAnswered (ended result)
      → IfSome left (λ bytes. AreAnswered Meaning (made (nothing n) bytes) status.Done (ended result) old new)
  pub fault : (ended result ≡ status.ReadFault) ⊎ (ended result ≡ status.NoMemory)
      → IfSome left (λ bytes. Stops Meaning (made (nothing n) bytes) old new)
  pub cut : ended result ≡ status.WriteFault
      → IfSome left (λ bytes. Breaks Meaning (made (nothing n) bytes) old new)
  pub no_usage : ended result ≢ status.Usage
  pub read : ended result ≡ status.ReadFault → Rose faults faults_now
  pub write : ended result ≡ status.WriteFault → Rose cuts cuts_now
  pub taken : IsAnswered (ended result) → TakesAll left rest
  pub prefix : TakesSome left rest
  pub source_later : faults ≤ faults_now
  pub sink_later : cuts ≤ cuts_now
  pub still : ended result ≢ status.ReadFault → Ready ⊎ TakesAll left rest
  pub prompt : ended result ≡ status.ReadFault → IsUpToDate Meaning n left rest old new
  pub readings : result ≡ None → TakesAtLeast (2 ^ 64 - 1) left rest

-- the line that says which word is at fault was written
abbrev pub IsUsageWritten : List (List ℕ) → Option (List ℕ) → Option (List ℕ) → Type 0
IsUsageWritten words old new = (k : ℕ) × (IsReadingUsage words k × Appends old new (line_text (line.Usage k)))

abbrev pub IsUsageCutOff : List (List ℕ) → Option (List ℕ) → Option (List ℕ) → Type 0
IsUsageCutOff words old new = (k : ℕ) × (IsReadingUsage words k × IsFront old new (line_text (line.Usage k)))
