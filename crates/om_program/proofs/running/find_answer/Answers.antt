use Rattle.std.proofs.Common.{sym, ◌∙◌, subst, ap}
use Rattle.om_program.specs.Plans.{IsLawfulPlan, reads_by}
use Rattle.om_program.proofs.PlanLaws.{planned}
use Rattle.om_program.proofs.running.find_answer.Goals as goal

pub follow-requires-clause-lawful : goal.follow-requires-clause-lawful
follow-requires-clause-lawful g c = λ κs out.
    subst IsLawfulPlan (sym c.plan_of.ensures) ((planned c.args.task).1 c.requires.lawful)

pub returns-clause-meant : goal.returns-clause-meant
returns-clause-meant g c = rw c.plan_of.ensures at c.follow.ensures.meant

pub returns-clause-alone : goal.returns-clause-alone
returns-clause-alone g c = λ nothing. rw c.plan_of.ensures at
    (c.follow.ensures.alone (ap reads_by c.plan_of.ensures ∙ (planned c.args.task).0 ∙ nothing))

pub returns-clause-reading : goal.returns-clause-reading
returns-clause-reading g c = λ fault nothing.
    c.follow.ensures.reading fault (ap reads_by c.plan_of.ensures ∙ (planned c.args.task).0 ∙ nothing)

pub returns-clause-unread : goal.returns-clause-unread
returns-clause-unread g c = λ nothing.
    c.follow.ensures.unread (ap reads_by c.plan_of.ensures ∙ (planned c.args.task).0 ∙ nothing)

pub returns-clause-taken : goal.returns-clause-taken
returns-clause-taken g c = rw (ap reads_by c.plan_of.ensures ∙ (planned c.args.task).0) at c.follow.ensures.taken

pub returns-clause-still : goal.returns-clause-still
returns-clause-still g c = c.follow.ensures.still
