use Rattle.om_circuits.proofs.FirstInstance.{one_first}
use Rattle.om_circuits.proofs.laws.one_first_instance.Goals as goal

pub returns : goal.returns
returns c = one_first
