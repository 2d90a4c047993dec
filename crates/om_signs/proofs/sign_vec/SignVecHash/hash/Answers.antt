use Rattle.std.proofs.Common.{refl}
use Rattle.om_signs.proofs.Views.{masks_back}
use Rattle.om_signs.proofs.sign_vec.SignVecHash.hash.Goals as goal

pub returns : goal.returns
returns g c =
    let a = masks_back _ _ _ _ c.t1-1.invariant c.t1-1.view_is in
    rw (a.plus, a.minus, a.len, c.hash-3.ensures, c.hash-2.ensures, c.hash.ensures) refl
