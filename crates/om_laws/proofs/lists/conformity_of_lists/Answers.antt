use Rattle.om_laws.proofs.BridgeLaws.{conformal_functions, conformal_lists}
use Rattle.om_laws.proofs.lists.conformity_of_lists.Goals as goal

pub returns : goal.returns
returns c = λ xs ys. (conformal_functions xs ys, conformal_lists xs ys)
