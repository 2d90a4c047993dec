use Rattle.om_points.specs.Refusers.{AreSound}
use Rattle.om_points.proofs.refusers.Refusers.of.Given as goal

abbrev pub invariant-loop-level : goal.invariant-loop-level
invariant-loop-level l = AreSound l.placing l.wanted l.refusers

abbrev pub invariant-loop-rising : goal.invariant-loop-rising
invariant-loop-rising l = AreSound l.placing l.wanted l.refusers

abbrev pub invariant-loop-falling : goal.invariant-loop-falling
invariant-loop-falling l = AreSound l.placing l.wanted l.refusers
