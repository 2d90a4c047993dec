use Rattle.om_laws.proofs.TupleLaws.{value_alternating}
use Rattle.om_laws.proofs.tuples.value_alternates.Goals as goal

pub returns : goal.returns
returns c = λ f. value_alternating f
