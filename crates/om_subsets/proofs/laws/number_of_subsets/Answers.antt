use Rattle.om_subsets.proofs.Order.{length-subsets_from}
use Rattle.om_subsets.proofs.Table.{choose_above}
use Rattle.om_subsets.proofs.laws.number_of_subsets.Goals as goal

pub returns-clause-all : goal.returns-clause-all
returns-clause-all c = length-subsets_from 1

pub returns-clause-none : goal.returns-clause-none
returns-clause-none c = choose_above
