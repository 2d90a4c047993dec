use Rattle.om_certificate.proofs.Walking.{IsWalk, left}
use Rattle.om_certificate.proofs.weighing.first_unmet.Given as goal

abbrev pub invariant-loop-current : goal.invariant-loop-current
invariant-loop-current l = IsWalk l.chi l.weights l.current

abbrev pub decreases-loop-current : goal.decreases-loop-current
decreases-loop-current l = left l.current
