use Rattle.om_laws.proofs.SortingLaws.{value_increasing}
use Rattle.om_laws.proofs.tuples.value_when_increasing.Goals as goal

pub returns : goal.returns
returns c = λ f t i. value_increasing f t i
