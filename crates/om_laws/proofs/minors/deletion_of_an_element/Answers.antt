use Rattle.om_laws.proofs.MinorLaws as laws
use Rattle.om_laws.proofs.minors.deletion_of_an_element.Goals as goal

pub returns-clause-chirotope : goal.returns-clause-chirotope
returns-clause-chirotope c = λ n e i chi om b. laws.deletion_chirotope n e i chi om b

pub returns-clause-covectors : goal.returns-clause-covectors
returns-clause-covectors c = λ n e i chi om b X. laws.deletion_both n e i chi om b X
