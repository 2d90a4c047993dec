use Rattle.std.proofs.Common.{◌+◌, subst}
use Rattle.std.proofs.lemmas.Bool.{eq-eqb, eqb-true}
use Rattle.om_signs.specs.SignVec.{IsMaskOf}
use Rattle.om_subsets.specs.Subsets.{IsMember}
use Rattle.om_subsets.proofs.Relations.{part_from_masks, masks_from_part}
use Rattle.om_subsets.proofs.subset.Subset.is_part_of.Goals as goal

pub returns : goal.returns
returns c =
    let first = c.mask-mask.ensures.bits in
    let second = subst (λ n. IsMaskOf n (λ i. IsMember (i + 1) c.args.other.elements) c.mask.result) c.requires
    c.mask.ensures.bits in (
      λ t. part_from_masks c.args.self.n c.args.self.elements c.args.other.elements c.mask-mask.result c.mask.result
          first second c.mask-mask.ensures.lawful (eqb-true _ _ t),
      λ part. eq-eqb _ _
          (masks_from_part c.args.self.n c.args.self.elements c.args.other.elements c.mask-mask.result c.mask.result
          first second c.mask-mask.ensures.lawful part),
    )
