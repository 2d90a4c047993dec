use Rattle.om_text.proofs.Outcome.{same_fault}
use Rattle.om_text.proofs.laws.faults_are_unique.Goals as goal

pub returns : goal.returns
returns c = same_fault
