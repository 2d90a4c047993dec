use Rattle.om_decide.proofs.VerdictLaws.{limit_count, limit_rows}
use Rattle.om_decide.proofs.laws.limits_of_pivots.Goals as goal

pub returns-clause-count : goal.returns-clause-count
returns-clause-count c = limit_count

pub returns-clause-basis : goal.returns-clause-basis
returns-clause-basis c = limit_rows
