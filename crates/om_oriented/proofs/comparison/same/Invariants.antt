use Rattle.std.proofs.Common.{◌-◌, ◌^◌, length}
use Rattle.om_oriented.specs.Places.{base_three}
use Rattle.om_oriented.proofs.Walks.{AgreeBefore}
use Rattle.om_oriented.proofs.comparison.same.Given as goal

abbrev pub invariant-loop-x : goal.invariant-loop-x
invariant-loop-x g l = AgreeBefore (g.A.Oriented.elements l.a) (g.A.Oriented.is_covector l.a)
    (g.B.Oriented.is_covector l.b) l.x

abbrev pub decreases-loop-x : goal.decreases-loop-x
decreases-loop-x g l = 3 ^ length l.x - base_three l.x
