use Rattle.std.proofs.Common.{arith}
use Rattle.om_points.proofs.Refusing.{rightly}
use Rattle.om_points.proofs.refusers.form_at.Goals as goal

pub returns : goal.returns
returns c =
    let n = c.len.ensures.value in
    let t = c.requires.last in
    record {
      minors = c.form_of.ensures.minors;
      sound = rightly c.args.placing.now c.args.wanted.now c.args.p c.args.q _ c.at.result c.at-2.result
          c.sign_wanted-sign.result c.form_of.result c.requires.order (omega arith) (omega arith) c.at.ensures
          c.at-2.ensures c.sign_wanted-sign.ensures c.form_of.ensures.sound;
    }
