use Rattle.om_denotation.proofs.Uniqueness.{same_by_covectors}
use Rattle.om_denotation.proofs.ListUniqueness.{one_list_of_circuits, one_list_of_cocircuits, one_list_of_covectors}
use Rattle.om_oriented.proofs.laws.uniqueness.Goals as goal

pub returns-clause-chirotopes : goal.returns-clause-chirotopes
returns-clause-chirotopes c = same_by_covectors

pub returns-clause-circuits : goal.returns-clause-circuits
returns-clause-circuits c = one_list_of_circuits

pub returns-clause-cocircuits : goal.returns-clause-cocircuits
returns-clause-cocircuits c = one_list_of_cocircuits

pub returns-clause-covectors : goal.returns-clause-covectors
returns-clause-covectors c = one_list_of_covectors
