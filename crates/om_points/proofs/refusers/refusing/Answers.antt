use Rattle.std.proofs.Common.{arith}
use Rattle.om_points.proofs.Refusing.{rightly_option}
use Rattle.om_points.proofs.refusers.refusing.Goals as goal

pub returns-then-is_some-clause-sound : goal.returns-then-is_some-clause-sound
returns-then-is_some-clause-sound c =
    let n = c.len-last.ensures.value in
    let t = c.loop-q-test.true in
    let u = c.loop-p-test.true in
    rightly_option c.args.placing.now c.args.wanted.now c.loop-p.p c.loop-q.q _ c.at-first.result c.at-second.result
    c.sign_wanted-sign.result c.against-form.result (omega arith) (omega arith) (omega arith) c.at-first.ensures
    c.at-second.ensures c.sign_wanted-sign.ensures c.against-form.ensures.sound
