use Rattle.std.proofs.Common.{◌-◌, arith}
use Rattle.om_signs.proofs.OnePlace.{drop_made}
use Rattle.om_signs.proofs.sign_vec.SignVec.drop_place.Goals as goal

pub invariant_of-result : goal.invariant_of-result
invariant_of-result c =
    (drop_made _ _ _ _ (c.args.e - 1) c.self.invariant c.self.view_is (let l = c.requires.low in omega arith)
    c.requires.long).sound

pub returns : goal.returns
returns c =
    (drop_made _ _ _ _ (c.args.e - 1) c.self.invariant c.self.view_is (let l = c.requires.low in omega arith)
    c.requires.long).view
