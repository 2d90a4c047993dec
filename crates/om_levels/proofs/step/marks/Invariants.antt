use Rattle.std.proofs.Common.{◌≡◌, replicate, false}
use Rattle.om_levels.proofs.step.marks.Given as goal

abbrev pub invariant-loop-k : goal.invariant-loop-k
invariant-loop-k l = l.marks.items ≡ replicate l._k false
