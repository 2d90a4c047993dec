use Rattle.om_laws.proofs.BridgeLaws.{as_function-compose}
use Rattle.om_laws.proofs.lists.composition_of_lists.Goals as goal

pub returns : goal.returns
returns c = λ xs ys e. as_function-compose xs ys e
