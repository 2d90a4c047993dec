use Rattle.om_laws.proofs.ThreeTermOrders.{three_terms_in_order}
use Rattle.om_laws.proofs.relations.three_term_relations_in_order.Goals as goal

pub returns : goal.returns
returns c = λ chi alt h. three_terms_in_order chi alt h
