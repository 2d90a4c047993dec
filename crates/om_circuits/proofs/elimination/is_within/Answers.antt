use Rattle.om_circuits.proofs.MaskLaws.{within_test}
use Rattle.om_circuits.proofs.elimination.is_within.Goals as goal

pub returns : goal.returns
returns c = within_test c.args.z c.plus.result c.minus.result c.args.plus c.args.minus c.plus.type_inv c.minus.type_inv
    c.ranges.plus.fits c.ranges.minus.fits c.plus.ensures c.minus.ensures
