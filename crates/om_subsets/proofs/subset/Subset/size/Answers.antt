use Rattle.std.proofs.Common.{◌∙◌, arith, ap, length, subst}
use Rattle.om_subsets.specs.Subsets.{IsSubsetFrom}
use Rattle.om_subsets.specs.Members.{Chosen, members-subset}
use Rattle.om_subsets.proofs.Places.{ones-members, length-members}
use Rattle.om_subsets.proofs.subset.Subset.size.Goals as goal

pub returns-clause-value : goal.returns-clause-value
returns-clause-value c = ones-members _ 1 _ c.self.invariant.within ∙ ap (λ v. length v.elements) c.self.view_is

pub returns-clause-lawful : goal.returns-clause-lawful
returns-clause-lawful c =
    let P : Chosen → Type 0 = λ v. IsSubsetFrom 1 v.n v.elements in
    subst P c.self.view_is (members-subset c.self.inside.mask 1 c.self.inside.n)

pub returns-clause-within : goal.returns-clause-within
returns-clause-within c =
    let n_is = ap (λ v. v.n) c.self.view_is in
    let l = length-members c.self.inside.mask 1 c.self.inside.n in
    let o = ones-members c.self.inside.mask 1 c.self.inside.n c.self.invariant.within in
    omega arith
