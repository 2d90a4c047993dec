use Rattle.std.proofs.Common.{◌≤◌, ◌+◌}
use Rattle.om_label.proofs.frame.from_next_crossing.Given as goal

abbrev pub invariant-loop-place : goal.invariant-loop-place
invariant-loop-place l = l.size + 2 ≤ l.place
