use Rattle.om_laws.proofs.ThreeTermSigns.{three_terms_of_relations}
use Rattle.om_laws.proofs.relations.three_terms_of_all_lists.Goals as goal

pub returns : goal.returns
returns c = λ chi alt h. three_terms_of_relations chi alt h
