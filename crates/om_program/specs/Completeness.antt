-- When a run is certain to end with its answer, if memory lasts and no fault comes.
use Rattle.std.specs.Prelude.{ℕ, ◌≡◌, ◌≢◌, ◌≤◌, ◌⊎◌, List, length, Option, Some}
use Rattle.om_signs.specs.declared.limits.TheConstants.{MAX_INPUT}
use Rattle.om_lines.specs.Lines.{lines}
use Rattle.om_document.specs.Document.{IsDocument}
use Rattle.om_reply.specs.declared.claim.Claim.{Claim}
use Rattle.om_answer.specs.Claim.{IsClaim}
use Rattle.om_reply.specs.declared.answer.Answer.{Answer}
use Rattle.om_words.specs.declared.reads.Reads.TheVariants as source
use Rattle.om_reply.specs.declared.status.Status.{Status}
use Rattle.om_reply.specs.declared.status.Status.TheVariants.{Done, NoMemory}
use Rattle.om_words.specs.declared.task.Task.{Task}
use Rattle.om_reply.specs.Answers.{status_of}
use Rattle.om_representation.specs.Axioms.{MeetsAxioms}
use Rattle.om_program.specs.Meaning.{DocumentMeans, IsAnswerToClaim, Means}
use Rattle.om_program.specs.Plans.{plan_for}
use Rattle.om_program.specs.declared.plan.Plan.{Plan}
use Rattle.om_program.specs.declared.plan.Plan.TheVariants as plan
use Rattle.om_program.specs.declared.plan.Reading.TheVariants as reading
use Rattle.om_program.specs.Run.{IsWhole}
use Rattle.om_words.specs.Tasks.{reads}
use Rattle.om_words.specs.Words.{Names}

-- no answer of a meaning is a refusal, a limit on values or on members, or the verdict `limit`
abbrev pub IsFulfilled : (Answer → Type 0) → Type 0
IsFulfilled Meaning = (answer : Answer) → Meaning answer → status_of answer ≡ Done

-- The input is the text of a value, within the limit, that meets its axioms. The answer to it is no refusal and no
-- limit.
pub record HasText {A : Type 0} (IsText : List (List ℕ) → A → Type 0) (IsSound : A → Type 0)
    (Meaning : A → Answer → Type 0) (bytes : List ℕ) : Type 0 where
  pub value : A
  pub short : length bytes ≤ MAX_INPUT
  pub text : IsText (lines bytes) value
  pub sound : IsSound value
  pub done : IsFulfilled (Meaning value)

-- the axioms of the document of a claim
abbrev pub IsSoundClaim : Claim → Type 0
IsSoundClaim c = MeetsAxioms c.document

-- what is read by a plan is there, and has an answer
abbrev pub HasInputFor : Plan → List ℕ → Type 0
HasInputFor (plan.Make seed count) bytes = Unit {0}
HasInputFor (plan.Read reading.Claim) bytes = HasText IsClaim IsSoundClaim IsAnswerToClaim bytes
HasInputFor (plan.Read (reading.Document what)) bytes = HasText IsDocument MeetsAxioms (DocumentMeans what) bytes

-- what a task reads is there, and has an answer
abbrev pub HasInput : Task → List ℕ → Type 0
HasInput task bytes = HasInputFor (plan_for task) bytes

-- The words are a command, and its input is these bytes and has an answer. If the command reads, the source tells
-- that it has these bytes left. If it reads nothing, they are any bytes.
pub record IsAnswerable (words : List (List ℕ)) (left : Option (List ℕ)) : Type 0 where
  pub task : Task
  pub bytes : List ℕ
  pub names : Names words task
  pub told : reads task ≢ source.Nothing → left ≡ Some bytes
  pub input : HasInput task bytes

-- the run ended with status 0 and has written the text that the words and these bytes mean, or memory ran out
abbrev pub IsDoneOrNoMemory : List (List ℕ) → List ℕ → Status → Option (List ℕ) → Option (List ℕ) → Type 0
IsDoneOrNoMemory words bytes status old new = ((status ≡ Done) × IsWhole (Means words bytes) Done old new)
    ⊎ (status ≡ NoMemory)
