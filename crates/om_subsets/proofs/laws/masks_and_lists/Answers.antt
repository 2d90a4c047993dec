use Rattle.om_subsets.specs.Members.{mask_of-members}
use Rattle.om_subsets.proofs.Masks.{members-mask_of, mask_of-lt}
use Rattle.om_subsets.proofs.laws.masks_and_lists.Goals as goal

pub returns-clause-mask_of_list : goal.returns-clause-mask_of_list
returns-clause-mask_of_list c = λ n mask l. mask_of-members mask 1 n l

pub returns-clause-list_of_mask : goal.returns-clause-list_of_mask
returns-clause-list_of_mask c = members-mask_of 1

pub returns-clause-within : goal.returns-clause-within
returns-clause-within c = mask_of-lt 1
