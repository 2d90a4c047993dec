use Rattle.om_subsets.specs.Members.{members-subset}
use Rattle.om_subsets.proofs.Masks.{bits_are_members}
use Rattle.om_subsets.proofs.subset.Subset.from_mask.Goals as goal

pub returns-clause-bits : goal.returns-clause-bits
returns-clause-bits c = bits_are_members c.args.mask c.args.n c.requires.within

pub returns-clause-lawful : goal.returns-clause-lawful
returns-clause-lawful c = members-subset c.args.mask 1 c.args.n
