use Rattle.om_laws.proofs.BridgeLaws.{as_function-negated}
use Rattle.om_laws.proofs.lists.negation_of_lists.Goals as goal

pub returns : goal.returns
returns c = λ xs e. as_function-negated xs e
