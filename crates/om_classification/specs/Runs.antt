-- What a whole run has written, by its words and the bytes of its source.
use Rattle.std.specs.Prelude.{ℕ, List, Option, IfSome}
use Rattle.std.specs.Io.KnownBytes.{Appends, Consumes}
use Rattle.om_words.specs.Words.{IsFault}
use Rattle.om_pieces.specs.Pieces.{IsCut}
use Rattle.om_printing.specs.Texts.{line_text}
use Rattle.om_printing.specs.declared.line.Line.TheVariants as line
use Rattle.om_reply.specs.declared.status.Status.{Status}
use Rattle.om_reply.specs.Written.{IsFront}
use Rattle.om_classification.specs.declared.request.Request.{Request}
use Rattle.om_classification.specs.Requests.{IsRequest}
use Rattle.om_classification.specs.Answers.{IsStopped}

-- how many `end` lines close a piece
abbrev pub ends : ℕ
ends = 1

-- the bytes are cut into pieces, and by the status this was written of them
abbrev pub HasRun : Request → List ℕ → Status → Option (List ℕ) → Option (List ℕ) → Type 0
HasRun r bytes s old new = (pieces : List (List ℕ)) × (IsCut ends bytes pieces × IsStopped r pieces s old new)

-- all bytes were taken
abbrev pub TakesAll : Option (List ℕ) → Option (List ℕ) → Type 0
TakesAll old new = IfSome old (λ bytes. Consumes old new bytes)

-- the line that says which word is at fault was written
abbrev pub IsUsageWritten : List (List ℕ) → Option (List ℕ) → Option (List ℕ) → Type 0
IsUsageWritten words old new = (k : ℕ) × (IsFault IsRequest words k × Appends old new (line_text (line.Usage k)))

-- it was begun, but not finished
abbrev pub IsUsageCutOff : List (List ℕ) → Option (List ℕ) → Option (List ℕ) → Type 0
IsUsageCutOff words old new = (k : ℕ) × (IsFault IsRequest words k × IsFront old new (line_text (line.Usage k)))
