use Rattle.om_members.specs.Scans.{AllBelow, nth}
use Rattle.om_circuits.specs.Scans.{IsUnnestedIn}
use Rattle.om_circuits.proofs.supports.first_nested_with.Given as goal

abbrev pub invariant-loop-k : goal.invariant-loop-k
invariant-loop-k l = AllBelow l.k (λ j. IsUnnestedIn l.x (nth l.members j))
