use Rattle.std.proofs.Common.{◌+◌, ◌∙◌, sym, ap, subst}
use Rattle.om_signs.specs.SignVec.{IsMaskOf}
use Rattle.om_subsets.specs.Subsets.{IsMember, IsSubsetFrom}
use Rattle.om_subsets.specs.Members.{Chosen, mask_of, mask_of-members, members-subset}
use Rattle.om_subsets.proofs.Masks.{bits_are_members}
use Rattle.om_subsets.proofs.subset.Subset.mask.Goals as goal

pub returns-clause-value : goal.returns-clause-value
returns-clause-value c =
    sym (mask_of-members c.self.inside.mask 1 c.self.inside.n c.self.invariant.within)
    ∙ ap (λ v. mask_of 1 v.elements v.n) c.self.view_is

pub returns-clause-bits : goal.returns-clause-bits
returns-clause-bits c =
    let P : Chosen → Type 0 = λ v. IsMaskOf v.n (λ i. IsMember (i + 1) v.elements) c.self.inside.mask in
    subst P c.self.view_is (bits_are_members c.self.inside.mask c.self.inside.n c.self.invariant.within)

pub returns-clause-lawful : goal.returns-clause-lawful
returns-clause-lawful c =
    let P : Chosen → Type 0 = λ v. IsSubsetFrom 1 v.n v.elements in
    subst P c.self.view_is (members-subset c.self.inside.mask 1 c.self.inside.n)
