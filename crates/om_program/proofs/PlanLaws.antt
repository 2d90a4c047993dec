-- The plan of a task.
--
-- Main results: what it reads and the limits of its numbers (planned); what is read is something (reads_input); what an
-- input means that is too long (long_reading, long_task).
use Rattle.std.specs.Prelude.{ℕ, ◌≡◌, ◌<◌, List, length, refl}
use Rattle.std.proofs.Common.{sym, ◌∙◌}
use Rattle.om_signs.specs.declared.limits.TheConstants.{MAX_INPUT}
use Rattle.om_printing.specs.declared.line.Line.TheVariants as line
use Rattle.om_reply.specs.Answers.{says}
use Rattle.om_words.specs.declared.reads.Reads.TheVariants as source
use Rattle.om_words.specs.declared.task.Task.{Task}
use Rattle.om_words.specs.declared.task.Task.TheVariants.{Accept, Member, Convert, Dual, Delete, Contract, Reorient}
use Rattle.om_words.specs.declared.task.Task.TheVariants.{Wiring, Mutations, Flip, Extend, Decide, Paint, Hull, Lexext}
use Rattle.om_words.specs.declared.task.Task.TheVariants.{Threeterm, Upgrade, Check, Make}
use Rattle.om_words.specs.Tasks.{HasLawfulArguments, reads}
use Rattle.om_program.specs.declared.plan.Plan.{Plan}
use Rattle.om_program.specs.declared.plan.Plan.TheVariants as plan
use Rattle.om_program.specs.declared.plan.Reading.{Reading}
use Rattle.om_program.specs.declared.plan.Reading.TheVariants as reading
use Rattle.om_program.specs.Meaning.{long, ReadingMeans, PlanMeans, TaskMeans}
use Rattle.om_program.specs.Plans.{plan_for, reads_by, IsLawfulPlan}

-- the plan reads what the task reads, and has lawful numbers where the task has
abbrev pub IsPlanned : Task → Plan → Type 0
IsPlanned t p = (reads_by p ≡ reads t) × (HasLawfulArguments t → IsLawfulPlan p)

-- each task has such a plan: a line for each
pub planned : (t : Task) → IsPlanned t (plan_for t)
planned Accept = (refl, λ l. l)
planned (Member x) = (refl, λ l. l)
planned (Convert k) = (refl, λ l. l)
planned Dual = (refl, λ l. l)
planned (Delete e) = (refl, λ l. l)
planned (Contract e) = (refl, λ l. l)
planned (Reorient mask) = (refl, λ l. l)
planned Wiring = (refl, λ l. l)
planned Mutations = (refl, λ l. l)
planned (Flip a b c) = (refl, λ l. l)
planned (Extend first) = (refl, λ l. l)
planned (Paint colouring) = (refl, λ l. l)
planned Hull = (refl, λ l. l)
planned (Lexext leading) = (refl, λ l. l)
planned Threeterm = (refl, λ l. l)
planned Upgrade = (refl, λ l. l)
planned (Decide budgets) = (refl, λ l. l)
planned Check = (refl, λ l. l)
planned (Make seed count) = (refl, λ l. l)

pub reads_input : (what : Reading) → reads_by (plan.Read what) ≡ source.Nothing → ⊥
reads_input reading.Claim same = cc
reads_input (reading.Document what) same = cc

-- ---- an input that is longer than the limit

pub long_reading : (what : Reading) (bytes : List ℕ) → MAX_INPUT < length bytes
    → ReadingMeans what bytes (says line.RefusedLong)
long_reading reading.Claim bytes past = long past
long_reading (reading.Document what) bytes past = long past

long_plan : (p : Plan) (bytes : List ℕ) → (reads_by p ≡ source.Nothing → ⊥) → MAX_INPUT < length bytes
    → PlanMeans p bytes (says line.RefusedLong)
long_plan (plan.Make seed count) bytes reads past = absurd (reads refl)
long_plan (plan.Read what) bytes reads past = long_reading what bytes past

pub long_task : (t : Task) (bytes : List ℕ) → (reads t ≡ source.Nothing → ⊥) → MAX_INPUT < length bytes
    → TaskMeans t bytes (says line.RefusedLong)
long_task t bytes some past = long_plan (plan_for t) bytes (λ nothing. some (sym (planned t).0 ∙ nothing)) past
