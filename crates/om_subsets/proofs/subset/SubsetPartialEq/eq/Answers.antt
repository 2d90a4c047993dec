use Rattle.std.proofs.Common.{ap, ◌∙◌, ◌&&◌, nat_eq}
use Rattle.om_subsets.proofs.Masks.{parts_back}
use Rattle.om_subsets.proofs.subset.SubsetPartialEq.eq.Goals as goal

pub returns : goal.returns
returns c =
    let a = parts_back _ _ _ c.t1-1.invariant c.t1-1.view_is in
    let b = parts_back _ _ _ c.t2-1.invariant c.t2-1.view_is in
    rw (a.mask_is, a.n_is, b.mask_is, b.n_is)
    (c.and_eq.ensures ∙ ap (λ k. k && nat_eq c.t1-1.inside.n c.t2-1.inside.n) c.eq.ensures)
