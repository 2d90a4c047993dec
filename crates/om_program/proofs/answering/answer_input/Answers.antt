use Rattle.std.specs.Prelude.{IfOk}
use Rattle.std.proofs.Common.{sym, ◌∙◌, subst}
use Rattle.om_program.specs.declared.plan.Plan.{Plan}
use Rattle.om_program.specs.Meaning.{PlanMeans}
use Rattle.om_program.specs.Plans.{IsLawfulPlan}
use Rattle.om_program.proofs.PlanLaws.{planned}
use Rattle.om_program.proofs.answering.answer_input.Goals as goal

pub answer_reading-requires-clause-lawful : goal.answer_reading-requires-clause-lawful
answer_reading-requires-clause-lawful g c = λ κs out. subst IsLawfulPlan (sym c.plan_of.ensures ∙ c.in-Read.is)
    ((planned c.args.task).1 c.requires.lawful)

pub returns-in-Make : goal.returns-in-Make
returns-in-Make g c =
    let P : Plan → Type 0 = λ p. IfOk c.make_input.result (PlanMeans p c.args.bytes.now) in
    subst P (sym c.in-Make.is ∙ c.plan_of.ensures) c.make_input.ensures

pub returns-in-Read : goal.returns-in-Read
returns-in-Read g c =
    let P : Plan → Type 0 = λ p. IfOk c.answer_reading.result (PlanMeans p c.args.bytes.now) in
    subst P (sym c.in-Read.is ∙ c.plan_of.ensures) c.answer_reading.ensures
