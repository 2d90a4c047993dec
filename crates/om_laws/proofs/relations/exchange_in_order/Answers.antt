use Rattle.om_laws.proofs.ExchangeOrders as orders
use Rattle.om_laws.proofs.relations.exchange_in_order.Goals as goal

pub returns : goal.returns
returns c = λ chi alt. (λ h. orders.exchange_in_order chi alt h, λ h. orders.exchange_of_increasing chi alt h)
