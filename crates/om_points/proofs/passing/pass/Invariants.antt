use Rattle.std.proofs.Common.{◌≤◌, ◌-◌, length, get_or}
use Rattle.om_vectors.specs.WholeVectors.{zero_vector}
use Rattle.om_points.specs.Passes.{Disagrees, IsPassed}
use Rattle.om_points.specs.Refusers.{AreSound}
use Rattle.om_points.proofs.passing.pass.Given as goal

abbrev pub invariant-loop-steps : goal.invariant-loop-steps
invariant-loop-steps l = record {
  few : l.steps ≤ l.limit;
  passed : IsPassed l.box_size (Disagrees l.placing l.wanted (length l.placing - 1))
      (get_or l.placing (length l.placing - 1) zero_vector) l.steps l.vector;
  sound : AreSound l.placing l.wanted l.refusers;
}

abbrev pub decreases-loop-steps : goal.decreases-loop-steps
decreases-loop-steps l = l.limit - l.steps
