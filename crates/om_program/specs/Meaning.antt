-- What the words after the program's name and the bytes of its input mean: an answer, with its status and its text.
-- `run` is proved against this relation. Words name a task, a task has a plan, and each step of a plan has a line
-- below. What each command answers is defined in a file of its own.
use Rattle.std.specs.Prelude.{ℕ, ◌≡◌, ◌<◌, ◌≤◌, List, length}
use Rattle.om_signs.specs.declared.limits.TheConstants.{MAX_INPUT}
use Rattle.om_document.specs.declared.code.Code.{Code}
use Rattle.om_document.specs.declared.document.Document.{Document}
use Rattle.om_lines.specs.Lines.{lines}
use Rattle.om_document.specs.Document.{IsDocument}
use Rattle.om_text.specs.Fault.{IsFault}
use Rattle.om_reply.specs.declared.claim.Claim.{Claim}
use Rattle.om_printing.specs.declared.line.Line.{Line}
use Rattle.om_printing.specs.declared.line.Line.TheVariants as line
use Rattle.om_answer.specs.Claim.{IsClaim}
use Rattle.om_answer.specs.ClaimFault.{IsClaimFault}
use Rattle.om_reply.specs.declared.answer.Answer.{Answer}
use Rattle.om_words.specs.declared.task.Task.{Task}
use Rattle.om_reply.specs.Answers.{says}
use Rattle.om_representation.specs.Axioms.{IsFlatDocument}
use Rattle.om_plane.specs.Claims.{ClaimMeans}
use Rattle.om_commands.specs.Checked.{IsChecked}
use Rattle.om_commands.specs.Conversions.{IsConversion}
use Rattle.om_representation.specs.Covectors.{IsCovectorIn}
use Rattle.om_plane.specs.Decisions.{IsDecision}
use Rattle.om_representation.specs.Documents.{worked_on}
use Rattle.om_plane.specs.ExtensionLists.{AreExtensions}
use Rattle.om_plane.specs.Flips.{IsFlip}
use Rattle.om_commands.specs.Hulls.{IsHull}
use Rattle.om_commands.specs.LexicalExtensions.{IsLexicalExtension}
use Rattle.om_plane.specs.MadeInputs.{IsMade}
use Rattle.om_commands.specs.Memberships.{IsMembership}
use Rattle.om_plane.specs.MutationLists.{AreMutations}
use Rattle.om_commands.specs.Operations.{IsOperation}
use Rattle.om_commands.specs.Paintings.{IsPainting}
use Rattle.om_plane.specs.Sweeps.{IsWiringOf}
use Rattle.om_commands.specs.ThreeTermTests.{IsThreeTermTest}
use Rattle.om_commands.specs.Upgrades.{IsUpgrade}
use Rattle.om_words.specs.Words.{Names, IsUsage}
use Rattle.om_program.specs.Plans.{plan_for}
use Rattle.om_program.specs.declared.plan.OnDocument.{OnDocument}
use Rattle.om_program.specs.declared.plan.OnDocument.TheVariants.{Accept, ThreeTerm, Upgrade, Matroid}
use Rattle.om_program.specs.declared.plan.OnMatroid.{OnMatroid}
use Rattle.om_program.specs.declared.plan.OnMatroid.TheVariants.{Member, Convert, Operate, Wiring, Mutations, Flip}
use Rattle.om_program.specs.declared.plan.OnMatroid.TheVariants.{Extend, Paint, Hull, Lexext, Decide}
use Rattle.om_program.specs.declared.plan.Plan.{Plan}
use Rattle.om_program.specs.declared.plan.Plan.TheVariants as plan
use Rattle.om_program.specs.declared.plan.Reading.{Reading}
use Rattle.om_program.specs.declared.plan.Reading.TheVariants as reading

-- the answer to what is asked of an oriented matroid, by the document of its chirotope or of its list
abbrev pub IsAnswerOf : OnMatroid → Document → Answer → Type 0
IsAnswerOf (Member x) d answer = IsMembership d.elements (IsCovectorIn d) x answer
IsAnswerOf (Convert k) d answer = IsConversion k d answer
IsAnswerOf (Operate operation) d answer = IsOperation operation d answer
IsAnswerOf Wiring d answer = IsWiringOf d answer
IsAnswerOf Mutations d answer = AreMutations d answer
IsAnswerOf (Flip a b c) d answer = IsFlip a b c d answer
IsAnswerOf (Extend first) d answer = AreExtensions first d answer
IsAnswerOf (Paint colouring) d answer = IsPainting colouring d answer
IsAnswerOf Hull d answer = IsHull d answer
IsAnswerOf (Lexext leading) d answer = IsLexicalExtension leading d answer
IsAnswerOf (Decide budgets) d answer = IsDecision budgets d answer

-- what is asked of an oriented matroid means for a document that meets its axioms
pub data MatroidMeans (what : OnMatroid) (d : Document) : Answer → Type 0 where
  -- the document is a wiring that gives no chirotope
  flat : IsFlatDocument d → MatroidMeans what d (says line.RefusedFlatrank)
  -- it gives an oriented matroid: points and wirings through their map, every other document by itself
  answered : (answer : Answer) → (IsFlatDocument d → ⊥) → IsAnswerOf what (worked_on d) answer
      → MatroidMeans what d answer

-- What is asked of a document means for it. The three-term test speaks of maps that fail the axioms too.
abbrev pub DocumentMeans : OnDocument → Document → Answer → Type 0
DocumentMeans Accept d answer = IsChecked d (λ given. given ≡ says line.Accepted) answer
DocumentMeans ThreeTerm d answer = IsThreeTermTest d answer
DocumentMeans Upgrade d answer = IsUpgrade d answer
DocumentMeans (Matroid what) d answer = IsChecked d (MatroidMeans what d) answer

-- the answer to a claim is one line
abbrev pub IsAnswerToClaim : Claim → Answer → Type 0
IsAnswerToClaim c answer = (l : Line) × ((answer ≡ says l) × ClaimMeans c l)

-- What an input means that is read as a text, with these faults and these values. The cases come in the order in which
-- they are tested, and each holds only if none before it does.
pub data InputMeans {A : Type 0} (IsFaulty : List (List ℕ) → ℕ → Code → Type 0) (IsText : List (List ℕ) → A → Type 0)
    (Meaning : A → Answer → Type 0) (bytes : List ℕ) : Answer → Type 0 where
  -- the input is longer than the limit
  long : MAX_INPUT < length bytes → InputMeans IsFaulty IsText Meaning bytes (says line.RefusedLong)
  -- a line is at fault
  faulty : (n : ℕ) (c : Code) → length bytes ≤ MAX_INPUT → IsFaulty (lines bytes) n c
      → InputMeans IsFaulty IsText Meaning bytes (says (line.RefusedLine n c))
  -- the input is the text of a value
  read : (a : A) (answer : Answer) → length bytes ≤ MAX_INPUT → IsText (lines bytes) a → Meaning a answer
      → InputMeans IsFaulty IsText Meaning bytes answer

-- what is asked of what is read means for an input
abbrev pub ReadingMeans : Reading → List ℕ → Answer → Type 0
ReadingMeans reading.Claim bytes answer = InputMeans IsClaimFault IsClaim IsAnswerToClaim bytes answer
ReadingMeans (reading.Document what) bytes answer = InputMeans IsFault IsDocument (DocumentMeans what) bytes answer

-- what a plan means for an input; vectors are made from a number, whatever the input is
abbrev pub PlanMeans : Plan → List ℕ → Answer → Type 0
PlanMeans (plan.Make seed count) bytes answer = IsMade seed count answer
PlanMeans (plan.Read what) bytes answer = ReadingMeans what bytes answer

-- what a task means for an input
abbrev pub TaskMeans : Task → List ℕ → Answer → Type 0
TaskMeans task bytes answer = PlanMeans (plan_for task) bytes answer

-- what words and an input mean
pub data Means (words : List (List ℕ)) (bytes : List ℕ) : Answer → Type 0 where
  -- the words aren't a command, whatever the input is
  usage : (k : ℕ) → IsUsage words k → Means words bytes (says (line.Usage k))
  -- the words name a task
  named : (task : Task) (answer : Answer) → Names words task → TaskMeans task bytes answer → Means words bytes answer
