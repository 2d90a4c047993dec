use Rattle.om_decide.proofs.VerdictLaws.{never_both}
use Rattle.om_decide.proofs.laws.vectors_exclude_balance.Goals as goal

pub returns : goal.returns
returns c = never_both
