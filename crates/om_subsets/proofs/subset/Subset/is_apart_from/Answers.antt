use Rattle.std.proofs.Common.{◌+◌, subst}
use Rattle.std.proofs.lemmas.Bool.{eq-eqb, eqb-true}
use Rattle.om_signs.specs.SignVec.{IsMaskOf}
use Rattle.om_subsets.specs.Subsets.{IsMember, IsSubsetFrom}
use Rattle.om_subsets.proofs.Relations.{apart_from_masks, masks_from_apart}
use Rattle.om_subsets.proofs.subset.Subset.is_apart_from.Goals as goal

pub returns : goal.returns
returns c =
    let second = subst (λ n. IsMaskOf n (λ i. IsMember (i + 1) c.args.other.elements) c.mask-2.result) c.requires
    c.mask-2.ensures.bits in
    let other = subst (λ n. IsSubsetFrom 1 n c.args.other.elements) c.requires c.mask-2.ensures.lawful in (
      λ t. apart_from_masks c.args.self.n c.args.self.elements c.args.other.elements c.mask.result c.mask-2.result
          c.mask.ensures.bits second c.mask.ensures.lawful other (eqb-true _ _ t),
      λ apart. eq-eqb _ _
          (masks_from_apart c.args.self.n c.args.self.elements c.args.other.elements c.mask.result c.mask-2.result
          c.mask.ensures.bits second c.mask.ensures.lawful apart),
    )
