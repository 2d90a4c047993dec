use Rattle.om_subsets.proofs.Order.{rank_from-lt, get_or-rank_from, listed}
use Rattle.om_subsets.proofs.laws.places_and_lists.Goals as goal

pub returns-clause-small : goal.returns-clause-small
returns-clause-small c = rank_from-lt 1

pub returns-clause-list_of_place : goal.returns-clause-list_of_place
returns-clause-list_of_place c = get_or-rank_from 1

pub returns-clause-lawful : goal.returns-clause-lawful
returns-clause-lawful c = λ n r k l. (listed 1 n r k l).lawful

pub returns-clause-size : goal.returns-clause-size
returns-clause-size c = λ n r k l. (listed 1 n r k l).size

pub returns-clause-place_of_list : goal.returns-clause-place_of_list
returns-clause-place_of_list c = λ n r k l. (listed 1 n r k l).place
