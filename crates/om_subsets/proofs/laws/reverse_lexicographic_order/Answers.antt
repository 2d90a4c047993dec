use Rattle.om_subsets.proofs.Reverse.{reverse_order}
use Rattle.om_subsets.proofs.laws.reverse_lexicographic_order.Goals as goal

pub returns : goal.returns
returns c = reverse_order
