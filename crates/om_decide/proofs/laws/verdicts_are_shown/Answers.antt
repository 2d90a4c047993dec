use Rattle.om_decide.proofs.VerdictLaws.{verdict_shown}
use Rattle.om_decide.proofs.laws.verdicts_are_shown.Goals as goal

pub returns : goal.returns
returns c = verdict_shown
