use Rattle.om_members.specs.Scans.{AllBelow}
use Rattle.om_circuits.specs.Scans.{HasEliminatorIfAsked}
use Rattle.om_circuits.proofs.elimination.first_blocked_element.Given as goal

abbrev pub invariant-loop-e : goal.invariant-loop-e
invariant-loop-e l = AllBelow l.e (HasEliminatorIfAsked l.members l.fn.x l.fn.y)
