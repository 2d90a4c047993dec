use Rattle.std.proofs.Common.{◌+◌}
use Rattle.om_members.specs.Scans.{AllBelow}
use Rattle.om_circuits.specs.Scans.{IsUnblockedWith}
use Rattle.om_circuits.proofs.elimination.first_blocked_with.Given as goal

abbrev pub invariant-loop-j : goal.invariant-loop-j
invariant-loop-j l = AllBelow l.j (λ j. AllBelow (l.elements + 1) (IsUnblockedWith l.members l.x j))
