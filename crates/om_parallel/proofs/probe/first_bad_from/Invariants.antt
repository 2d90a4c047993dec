use Rattle.std.proofs.Common.{◌-◌, ◌≤◌}
use Rattle.om_parallel.specs.FirstBad.{IsNoneBad}
use Rattle.om_parallel.proofs.probe.first_bad_from.Given as goal

-- none of the numbers searched so far is bad
abbrev pub invariant-loop-low : goal.invariant-loop-low
invariant-loop-low g l = record {
  later : l.from ≤ l.low;
  searched : IsNoneBad (g.P.Probe.is_bad l.probe) l.from l.low;
}

abbrev pub decreases-loop-low : goal.decreases-loop-low
decreases-loop-low g l = l.count - l.low
