use Rattle.std.proofs.Common.{◌+◌, ◌-◌, length}
use Rattle.om_oriented.proofs.Walks.{IsCarried}
use Rattle.om_oriented.proofs.walk.following.Given as goal

abbrev pub invariant-loop-e : goal.invariant-loop-e
invariant-loop-e l = IsCarried l.x l.next (length l.x + 1 - l.e)
