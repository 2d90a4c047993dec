use Rattle.std.proofs.Common.{length}
use Rattle.om_matroid.proofs.ParallelLaws.{AreSeen}
use Rattle.om_matroid.proofs.elements.parallel.Given as goal

-- what the bases so far say of the two elements
abbrev pub invariant-loop-b : goal.invariant-loop-b
invariant-loop-b l = record {
  can : (goal.iterator-loop-b).can_next l.b-iterator;
  finite : (goal.iterator-loop-b).is_finite l.b-iterator;
  seen : AreSeen l.chi l.e l.f (length l.yielded) l.first l.second;
}
