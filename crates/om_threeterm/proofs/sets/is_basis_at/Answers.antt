use Rattle.om_subsets.specs.Subsets.{subset_at}
use Rattle.om_subsets.proofs.Order.{listed}
use Rattle.om_threeterm.proofs.SetLaws.{basis_of_sign}
use Rattle.om_threeterm.proofs.sets.is_basis_at.Goals as goal

pub returns : goal.returns
returns c =
    let m = c.args.map.now in
    let here = listed 1 m.elements m.rank c.args.k c.requires in
    let both = basis_of_sign m (subset_at m.elements m.rank c.args.k) c.args.k c.at.result here.lawful
    here.size here.place (rw (← c.map.view_is) c.at.ensures) in
    (λ t. both.0 (c.is_nonzero.ensures.0 t), λ b. c.is_nonzero.ensures.1 (both.1 b))
