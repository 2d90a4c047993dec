use Rattle.om_laws.proofs.BridgeLaws.{relation_to_lists, relation_from_lists}
use Rattle.om_laws.proofs.lists.relation_as_orthogonality.Goals as goal

pub returns : goal.returns
returns c = λ n k chi s a t i. (relation_to_lists n k chi s a t i, relation_from_lists n k chi s a t i)
