use Rattle.std.proofs.Common.{◌≡◌, ap, arith}
use Rattle.om_subsets.proofs.Edits.{has_test}
use Rattle.om_subsets.proofs.subset.Subset.has.Goals as goal

pub returns : goal.returns
returns c =
    let low = c.requires.low in
    let high = c.requires.high in
    let n_is : c.self.inside.n ≡ c.args.self.n = ap (λ v. v.n) c.self.view_is in
    has_test _ _ c.self.inside.n c.args.e c.args.self.elements (omega arith) (omega arith)
    (ap (λ v. v.elements) c.self.view_is)
