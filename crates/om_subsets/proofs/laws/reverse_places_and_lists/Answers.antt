use Rattle.om_subsets.proofs.ReversePlaces.{length-revlex_subsets, reverse_small, at_reverse_rank, reverse_listed}
use Rattle.om_subsets.proofs.laws.reverse_places_and_lists.Goals as goal

pub returns-clause-number : goal.returns-clause-number
returns-clause-number c = length-revlex_subsets

pub returns-clause-small : goal.returns-clause-small
returns-clause-small c = reverse_small

pub returns-clause-list_of_place : goal.returns-clause-list_of_place
returns-clause-list_of_place c = at_reverse_rank

pub returns-clause-lawful : goal.returns-clause-lawful
returns-clause-lawful c = λ n r k l. (reverse_listed n r k l).lawful

pub returns-clause-size : goal.returns-clause-size
returns-clause-size c = λ n r k l. (reverse_listed n r k l).size

pub returns-clause-place_of_list : goal.returns-clause-place_of_list
returns-clause-place_of_list c = λ n r k l. (reverse_listed n r k l).place
