use Rattle.std.proofs.Common.{subst}
use Rattle.om_subsets.specs.Subsets.{IsSubsetFrom}
use Rattle.om_subsets.specs.Members.{Chosen, members-subset}
use Rattle.om_subsets.proofs.subset.Subset.n.Goals as goal

pub returns-clause-lawful : goal.returns-clause-lawful
returns-clause-lawful c =
    let P : Chosen → Type 0 = λ v. IsSubsetFrom 1 v.n v.elements in
    subst P c.self.view_is (members-subset c.self.inside.mask 1 c.self.inside.n)
