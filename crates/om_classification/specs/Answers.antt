-- What a run writes: of lists, or of least maps.
use Rattle.std.specs.Prelude.{ℕ, ◌⊎◌, List, Option}
use Rattle.std.specs.Io.KnownBytes.{Appends}
use Rattle.om_reply.specs.declared.status.Status.{Status}
use Rattle.om_reply.specs.declared.status.Status.TheVariants.{Done, Refused, Usage, Limit, ReadFault, WriteFault}
use Rattle.om_reply.specs.declared.status.Status.TheVariants.{NoMemory}
use Rattle.om_reply.specs.Written.{IsFront}
use Rattle.om_classification.specs.declared.progress.Progress.{Progress}
use Rattle.om_classification.specs.declared.progress.Progress.TheVariants.{Lists as OfLists, Least as OfLeast}
use Rattle.om_classification.specs.declared.request.Request.{Request}
use Rattle.om_classification.specs.declared.request.Request.TheVariants.{Lists, Least}
use Rattle.om_classification.specs.Lists.{IsTextOfAll, IsTextOfFirst, IsTextUpToWrong}
use Rattle.om_classification.specs.Progress.{IsBetween, started_lists}
use Rattle.om_classification.specs.LeastMaps.{IsTextOfLeast, IsTextOfFirstLeast, IsTextUpToFault, IsLeastBetween}

-- the whole answer: the text of the lists' lines, or of the documents of the least maps
abbrev pub IsAnswer : Request → List (List ℕ) → List ℕ → Type 0
IsAnswer (Lists r) pieces text = IsTextOfAll r pieces text
IsAnswer Least pieces text = IsTextOfLeast pieces text

-- what was to be written of the first pieces
abbrev pub IsAnswerToFirst : Request → List (List ℕ) → List ℕ → Type 0
IsAnswerToFirst (Lists r) pieces text = IsTextOfFirst r pieces text
IsAnswerToFirst Least pieces text = IsTextOfFirstLeast pieces text

-- such a text, and a line that says what is wrong then, with its status
abbrev pub IsAnswerUpToWrong : Request → List (List ℕ) → Status → List ℕ → Type 0
IsAnswerUpToWrong (Lists r) pieces s text = IsTextUpToWrong r pieces s text
IsAnswerUpToWrong Least pieces s text = IsTextUpToFault pieces s text

-- such a text, with or without a line that says what is wrong
abbrev pub IsRight : Request → List (List ℕ) → List ℕ → Type 0
IsRight r pieces text = IsAnswerToFirst r pieces text ⊎ ((s : Status) × IsAnswerUpToWrong r pieces s text)

-- the state before the first document
abbrev pub started : Request → Progress
started (Lists r) = OfLists (started_lists r)
started Least = OfLeast (record { documents = 0 })

-- between two pieces: of all pieces the first ones were read, which led to this text and to this state, and these
-- pieces are left
abbrev pub IsReached : Request → List (List ℕ) → List ℕ → Progress → List (List ℕ) → Type 0
IsReached (Lists r) all text (OfLists s) left = IsBetween r all text s left
IsReached Least all text (OfLeast s) left = IsLeastBetween all text s.documents left
IsReached r all text s left = ⊥

-- after one more piece: the run goes on, or ends with the line that says what is wrong
abbrev pub IsTaken : Request → List (List ℕ) → List ℕ → Status → Progress → List (List ℕ) → Type 0
IsTaken r all text Done s left = IsReached r all text s left
IsTaken r all text t s left = IsAnswerUpToWrong r all t text

-- after the last piece
abbrev pub IsOver : Request → List (List ℕ) → List ℕ → Status → Type 0
IsOver r all text Done = IsAnswer r all text
IsOver r all text t = IsAnswerUpToWrong r all t text

-- such a text was written
abbrev pub IsWritten : (List ℕ → Type 0) → Option (List ℕ) → Option (List ℕ) → Type 0
IsWritten Text old new = (text : List ℕ) × (Text text × Appends old new text)

-- such a text was begun, but not finished
abbrev pub IsBegun : (List ℕ → Type 0) → Option (List ℕ) → Option (List ℕ) → Type 0
IsBegun Text old new = (text : List ℕ) × (Text text × IsFront old new text)

-- of all pieces the first ones were read, which led to this state, their text was written, and these pieces are left
abbrev pub IsGoing : Request → List (List ℕ) → Progress → List (List ℕ) → Option (List ℕ) → Option (List ℕ) → Type 0
IsGoing r all s left old new = IsWritten (λ text. IsReached r all text s left) old new

-- a run that didn't go on: what was written by then
abbrev pub IsStopped : Request → List (List ℕ) → Status → Option (List ℕ) → Option (List ℕ) → Type 0
IsStopped r all Done old new = IsWritten (IsAnswer r all) old new
IsStopped r all Refused old new = IsWritten (IsAnswerUpToWrong r all Refused) old new
IsStopped r all Limit old new = IsWritten (IsAnswerUpToWrong r all Limit) old new
IsStopped r all Usage old new = ⊥
IsStopped r all ReadFault old new = IsWritten (IsAnswerToFirst r all) old new
IsStopped r all NoMemory old new = IsWritten (IsAnswerToFirst r all) old new
IsStopped r all WriteFault old new = IsBegun (IsRight r all) old new

-- a run that goes on with Done, or stopped
abbrev pub IsOutcome : Request → List (List ℕ) → Status → Progress → List (List ℕ) → Option (List ℕ) → Option (List ℕ)
    → Type 0
IsOutcome r all Done s left old new = IsGoing r all s left old new
IsOutcome r all t s left old new = IsStopped r all t old new
