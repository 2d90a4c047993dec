use Rattle.om_members.specs.Scans.{AllBelow}
use Rattle.om_circuits.specs.Scans.{IsNotZeroAt}
use Rattle.om_circuits.proofs.supports.first_zero.Given as goal

abbrev pub invariant-loop-k : goal.invariant-loop-k
invariant-loop-k l = AllBelow l.k (IsNotZeroAt l.members)
