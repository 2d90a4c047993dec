use Rattle.std.proofs.Common.{◌∙◌, ap, length}
use Rattle.om_subsets.specs.Subsets.{rank_of}
use Rattle.om_subsets.specs.Members.{members-subset}
use Rattle.om_subsets.proofs.Places.{bits_fit, first_mask, first_members, length-first_of, rank-first_of}
use Rattle.om_subsets.proofs.subset.Subset.first.Goals as goal

pub invariant_of-result : goal.invariant_of-result
invariant_of-result c = record {
  within = first_mask _ _ c.requires.part (bits_fit _ c.requires.small);
  few = c.requires.small;
}

pub returns-clause-elements : goal.returns-clause-elements
returns-clause-elements c = first_members _ _ c.requires.part (bits_fit _ c.requires.small)

pub returns-clause-size : goal.returns-clause-size
returns-clause-size c = ap length (first_members _ _ c.requires.part (bits_fit _ c.requires.small))
    ∙ length-first_of 1 c.args.r

pub returns-clause-place : goal.returns-clause-place
returns-clause-place c = ap (rank_of c.args.n) (first_members _ _ c.requires.part (bits_fit _ c.requires.small))
    ∙ rank-first_of 1 c.args.n c.args.r

pub returns-clause-lawful : goal.returns-clause-lawful
returns-clause-lawful c = members-subset _ 1 c.args.n
