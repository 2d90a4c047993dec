use Rattle.om_signs.specs.OrderLaws.{same_from_order, order_of_same}
use Rattle.om_signs.proofs.laws.ties_of_order.Goals as goal

pub returns : goal.returns
returns c = λ xs ys. (same_from_order xs ys, order_of_same xs ys)
