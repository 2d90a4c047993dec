use Rattle.om_subsets.proofs.Statements.{members_with, members_without}
use Rattle.om_subsets.proofs.laws.changed_members.Goals as goal

pub returns-clause-with : goal.returns-clause-with
returns-clause-with c = members_with

pub returns-clause-without : goal.returns-clause-without
returns-clause-without c = members_without
