use Rattle.om_decide.proofs.VerdictForms.{verdict_within}
use Rattle.om_decide.proofs.laws.verdicts_are_within_limits.Goals as goal

pub returns : goal.returns
returns c = λ m b v small h. verdict_within m small b v h
