use Rattle.std.proofs.Common.{◌-◌, arith}
use Rattle.om_signs.proofs.OnePlace.{set_made}
use Rattle.om_signs.proofs.sign_vec.SignVec.set.Goals as goal

pub invariant_of-result : goal.invariant_of-result
invariant_of-result c = rw (c.plus_bit.ensures, c.minus_bit.ensures)
    ((set_made _ _ _ _ (c.args.e - 1) c.args.s c.self.invariant c.self.view_is
    (let l = c.requires.low in omega arith)).sound)

pub returns : goal.returns
returns c = rw (c.plus_bit.ensures, c.minus_bit.ensures)
    ((set_made _ _ _ _ (c.args.e - 1) c.args.s c.self.invariant c.self.view_is
    (let l = c.requires.low in omega arith)).view)
