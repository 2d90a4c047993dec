use Rattle.om_certificate.proofs.Walking.{left}
use Rattle.om_decide.proofs.Walks.{IsWalk}
use Rattle.om_decide.proofs.making.lawful_statements.Given as goal

abbrev pub invariant-loop-current : goal.invariant-loop-current
invariant-loop-current l = IsWalk l.chi l.statements l.current

abbrev pub decreases-loop-current : goal.decreases-loop-current
decreases-loop-current l = left l.current
