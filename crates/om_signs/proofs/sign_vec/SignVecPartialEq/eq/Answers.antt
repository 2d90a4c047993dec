use Rattle.std.proofs.Common.{ap, ◌∙◌, ◌&&◌, nat_eq}
use Rattle.om_signs.proofs.Views.{masks_back, and_regroup}
use Rattle.om_signs.proofs.sign_vec.SignVecPartialEq.eq.Goals as goal

pub returns : goal.returns
returns c =
    let a = masks_back _ _ _ _ c.t1-1.invariant c.t1-1.view_is in
    let b = masks_back _ _ _ _ c.t2-1.invariant c.t2-1.view_is in
    rw (a.plus, a.minus, a.len, b.plus, b.minus, b.len)
    (and_regroup _ _ _ _ _
    (c.and_eq.ensures ∙ ap (λ k. k && nat_eq c.t1-1.inside.minus c.t2-1.inside.minus) c.eq.ensures)
    c.and_eq-2.ensures)
