use Rattle.om_members.specs.Scans.{AllBelow}
use Rattle.om_covectors.specs.Scans.{HasCovectorEliminatorIfAsked}
use Rattle.om_covectors.proofs.elimination.first_blocked_element.Given as goal

abbrev pub invariant-loop-e : goal.invariant-loop-e
invariant-loop-e l = AllBelow l.e (HasCovectorEliminatorIfAsked l.members l.fn.x l.fn.y)
