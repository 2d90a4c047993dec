use Rattle.om_decide.proofs.VerdictLaws.{one_verdict}
use Rattle.om_decide.proofs.laws.one_verdict.Goals as goal

pub returns : goal.returns
returns c = one_verdict
