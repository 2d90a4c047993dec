use Rattle.std.proofs.Common.{◌≡◌, ap, arith, ◌-◌}
use Rattle.om_subsets.proofs.Edits.{odd_test}
use Rattle.om_subsets.proofs.subset.Subset.odd_after.Goals as goal

pub returns : goal.returns
returns c =
    let low = c.requires.low in
    let high = c.requires.high in
    let n_is : c.self.inside.n ≡ c.args.self.n = ap (λ v. v.n) c.self.view_is in
    odd_test _ (c.args.e - 1) c.self.inside.n c.args.e c.args.self.elements (omega arith) (omega arith)
    c.self.invariant.within (ap (λ v. v.elements) c.self.view_is)
