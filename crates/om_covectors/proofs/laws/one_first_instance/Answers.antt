use Rattle.om_covectors.proofs.FirstInstance.{one_first}
use Rattle.om_covectors.proofs.laws.one_first_instance.Goals as goal

pub returns : goal.returns
returns c = one_first
