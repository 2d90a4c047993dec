use Rattle.om_points.specs.Refusers.{AreUseful}
use Rattle.om_points.proofs.refusers.slopes_of.Given as goal

abbrev pub invariant-loop-q : goal.invariant-loop-q
invariant-loop-q l = AreUseful l.placing l.wanted l.slopes

abbrev pub invariant-loop-p : goal.invariant-loop-p
invariant-loop-p l = AreUseful l.placing l.wanted l.slopes
