use Rattle.om_members.specs.Scans.{AllBelow, HasNegativeAt}
use Rattle.om_members.proofs.members.first_without_negative.Given as goal

abbrev pub invariant-loop-k : goal.invariant-loop-k
invariant-loop-k l = AllBelow l.k (HasNegativeAt l.members)
