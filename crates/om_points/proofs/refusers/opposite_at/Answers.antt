use Rattle.std.proofs.Common.{arith}
use Rattle.om_points.proofs.Refusing.{useful_option}
use Rattle.om_points.proofs.refusers.opposite_at.Goals as goal

pub returns : goal.returns
returns c =
    let n = c.len.ensures.value in
    let t = c.requires.last in
    useful_option c.args.placing.now c.args.wanted.now c.args.p c.args.q _ c.at.result c.at-2.result
    c.sign_wanted-sign.result c.opposite_of.result c.requires.order (omega arith) (omega arith) c.at.ensures
    c.at-2.ensures c.sign_wanted-sign.ensures c.opposite_of.ensures.sound c.opposite_of.ensures.minors
