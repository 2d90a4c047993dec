use Rattle.std.proofs.Common.{◌+◌, bit_and, subst}
use Rattle.om_signs.specs.SignVec.{IsMaskOf}
use Rattle.om_subsets.specs.Subsets.{IsMember, IsSubsetFrom}
use Rattle.om_subsets.proofs.Relations.{common_members}
use Rattle.om_subsets.proofs.subset.Subset.intersection.Goals as goal

pub returns-clause-members : goal.returns-clause-members
returns-clause-members c =
    let second = subst (λ n. IsMaskOf n (λ i. IsMember (i + 1) c.args.other.elements) c.mask-2.result) c.requires
    c.mask-2.ensures.bits in
    let other = subst (λ n. IsSubsetFrom 1 n c.args.other.elements) c.requires c.mask-2.ensures.lawful in
    let lawful = subst (λ n. IsSubsetFrom 1 n c.from_mask.result.elements) c.n-n.ensures.value
    c.from_mask.ensures.lawful in
    let both =
    subst (λ n. IsMaskOf n (λ i. IsMember (i + 1) c.from_mask.result.elements)
    (bit_and c.mask.result c.mask-2.result)) c.n-n.ensures.value c.from_mask.ensures.bits in
    common_members c.args.self.n c.args.self.elements c.args.other.elements c.mask.result c.mask-2.result
    c.mask.ensures.bits second c.mask.ensures.lawful c.from_mask.result.elements other lawful both
