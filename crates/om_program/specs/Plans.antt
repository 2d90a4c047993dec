-- The plan of each task, what is read by it, and the limits of its numbers.
use Rattle.om_budgets.specs.Ranges.{AreBudgets}
use Rattle.om_commands.specs.Operations as operations
use Rattle.om_commands.specs.declared.operation.Operation.TheVariants as operation
use Rattle.om_program.specs.declared.plan.OnDocument.{OnDocument}
use Rattle.om_program.specs.declared.plan.OnDocument.TheVariants as document
use Rattle.om_program.specs.declared.plan.OnMatroid.{OnMatroid}
use Rattle.om_program.specs.declared.plan.OnMatroid.TheVariants as matroid
use Rattle.om_program.specs.declared.plan.Plan.{Plan}
use Rattle.om_program.specs.declared.plan.Plan.TheVariants as plan
use Rattle.om_program.specs.declared.plan.Reading.{Reading}
use Rattle.om_program.specs.declared.plan.Reading.TheVariants as reading
use Rattle.om_words.specs.Tasks.{AreIncreasing, AreLawful, HasElement, IsCount, IsNumberOfLines}
use Rattle.om_words.specs.declared.reads.Reads.{Reads}
use Rattle.om_words.specs.declared.reads.Reads.TheVariants as source
use Rattle.om_words.specs.declared.task.Task.{Task}
use Rattle.om_words.specs.declared.task.Task.TheVariants.{Accept, Threeterm, Upgrade, Check, Make}
use Rattle.om_words.specs.declared.task.Task.TheVariants.{Member, Convert, Dual, Delete, Contract, Reorient}
use Rattle.om_words.specs.declared.task.Task.TheVariants.{Wiring, Mutations, Flip, Extend, Decide, Paint, Hull, Lexext}

-- the plan to do this with a document
abbrev pub on_document : OnDocument → Plan
on_document what = plan.Read (reading.Document what)

-- the plan to do this with the oriented matroid of a document
abbrev pub on_matroid : OnMatroid → Plan
on_matroid what = on_document (document.Matroid what)

-- the plan of a task
abbrev pub plan_for : Task → Plan
plan_for Accept = on_document document.Accept
plan_for (Member x) = on_matroid (matroid.Member x)
plan_for (Convert k) = on_matroid (matroid.Convert k)
plan_for Dual = on_matroid (matroid.Operate operation.Dual)
plan_for (Delete e) = on_matroid (matroid.Operate (operation.Delete e))
plan_for (Contract e) = on_matroid (matroid.Operate (operation.Contract e))
plan_for (Reorient mask) = on_matroid (matroid.Operate (operation.Reorient mask))
plan_for Wiring = on_matroid matroid.Wiring
plan_for Mutations = on_matroid matroid.Mutations
plan_for (Flip a b c) = on_matroid (matroid.Flip a b c)
plan_for (Extend first) = on_matroid (matroid.Extend first)
plan_for (Paint colouring) = on_matroid (matroid.Paint colouring)
plan_for Hull = on_matroid matroid.Hull
plan_for (Lexext leading) = on_matroid (matroid.Lexext leading)
plan_for Threeterm = on_document document.ThreeTerm
plan_for Upgrade = on_document document.Upgrade
plan_for (Decide budgets) = on_matroid (matroid.Decide budgets)
plan_for Check = plan.Read reading.Claim
plan_for (Make seed count) = plan.Make seed count

-- what is read by a plan
abbrev pub reads_by : Plan → Reads
reads_by (plan.Make seed count) = source.Nothing
reads_by (plan.Read reading.Claim) = source.Claim
reads_by (plan.Read (reading.Document what)) = source.Document

-- the numbers in what is asked of an oriented matroid lie within the limits
abbrev pub IsLawfulOnMatroid : OnMatroid → Type 0
IsLawfulOnMatroid (matroid.Operate operation) = operations.IsLawful operation
IsLawfulOnMatroid (matroid.Flip a b c) = AreIncreasing a b c
IsLawfulOnMatroid (matroid.Extend first) = IsNumberOfLines first
IsLawfulOnMatroid (matroid.Paint colouring) = HasElement colouring
IsLawfulOnMatroid (matroid.Lexext leading) = AreLawful leading
IsLawfulOnMatroid (matroid.Decide budgets) = AreBudgets budgets
IsLawfulOnMatroid _ = Unit {0}

-- so do those in what is asked of a document
abbrev pub IsLawfulOnDocument : OnDocument → Type 0
IsLawfulOnDocument (document.Matroid what) = IsLawfulOnMatroid what
IsLawfulOnDocument _ = Unit {0}

-- so do those in what is asked of what is read
abbrev pub IsLawfulReading : Reading → Type 0
IsLawfulReading reading.Claim = Unit {0}
IsLawfulReading (reading.Document what) = IsLawfulOnDocument what

-- so do those in a plan
abbrev pub IsLawfulPlan : Plan → Type 0
IsLawfulPlan (plan.Make seed count) = IsCount count
IsLawfulPlan (plan.Read what) = IsLawfulReading what
