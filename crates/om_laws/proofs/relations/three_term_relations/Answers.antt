use Rattle.om_laws.proofs.ThreeTermLaws as laws
use Rattle.om_laws.proofs.relations.three_term_relations.Goals as goal

pub returns : goal.returns
returns c = λ chi alt ex three. laws.three_term_relations chi alt ex three
