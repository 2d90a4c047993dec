use Rattle.om_laws.proofs.BridgeLaws.{orthogonal_functions, orthogonal_lists}
use Rattle.om_laws.proofs.lists.orthogonality_of_lists.Goals as goal

pub returns : goal.returns
returns c = λ xs ys. (orthogonal_functions xs ys, orthogonal_lists xs ys)
