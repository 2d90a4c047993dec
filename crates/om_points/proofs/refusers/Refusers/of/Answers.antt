use Rattle.std.proofs.Common.{subst, sym}
use Rattle.om_points.specs.Refusers.{AreSound}
use Rattle.om_points.proofs.Refusing.{useful_at, sound_taken, sound_sum}
use Rattle.om_points.proofs.refusers.Refusers.of.Goals as goal
use Rattle.om_points.proofs.refusers.Refusers.of.Goals.{in-Some, in_default}

pub loop-falling-preserved : goal.loop-falling-preserved
loop-falling-preserved c =
    let vs = c.args.placing.now in
    let signs = c.args.wanted.now in
    let rising = useful_at vs signs _ _ _ c.rising-item.result c.as_slice-rising-items.ensures
    c.slopes_of-slopes.ensures.rising c.loop-rising-test.true c.rising-item.is in
    let falling = useful_at vs signs _ _ _ c.falling-item.result c.as_slice-falling-items.ensures
    c.slopes_of-slopes.ensures.falling c.loop-falling-test.true c.falling-item.is in
    elim c.match-without_z.branch [
      | in-Some w ↦ subst (AreSound vs signs) (sym w.refusers-is)
          (sound_taken vs signs c.loop-falling.refusers w.take-in-Some.new.self w.in-Some.form c.loop-falling.invariant
          (sound_sum vs signs w.in-Some.form _ _ rising.sound falling.sound w.in-Some.ensures)
          w.take-in-Some.ensures.right w.take-in-Some.ensures.left w.take-in-Some.ensures.against
          w.take-in-Some.ensures.held)
      | in_default w ↦ subst (AreSound vs signs) (sym w.refusers-is) c.loop-falling.invariant
    ]
