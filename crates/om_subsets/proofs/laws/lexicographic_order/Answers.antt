use Rattle.om_subsets.proofs.Order.{lexicographic}
use Rattle.om_subsets.proofs.laws.lexicographic_order.Goals as goal

pub returns : goal.returns
returns c = lexicographic 1
