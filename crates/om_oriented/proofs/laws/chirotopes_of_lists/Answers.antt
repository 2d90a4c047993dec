use Rattle.om_denotation.proofs.ListExistence.{of_circuits, of_cocircuits, of_covectors}
use Rattle.om_oriented.proofs.laws.chirotopes_of_lists.Goals as goal

pub returns-clause-circuits : goal.returns-clause-circuits
returns-clause-circuits c = of_circuits

pub returns-clause-cocircuits : goal.returns-clause-cocircuits
returns-clause-cocircuits c = of_cocircuits

pub returns-clause-covectors : goal.returns-clause-covectors
returns-clause-covectors c = of_covectors
