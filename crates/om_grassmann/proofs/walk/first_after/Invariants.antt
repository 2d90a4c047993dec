use Rattle.std.proofs.Common.{◌+◌, ◌-◌, ◌*◌, ◌≤◌}
use Rattle.om_grassmann.specs.Walk.{IsFrame, frame_place, HasNoneBetween}
use Rattle.om_grassmann.proofs.walk.first_after.Given as goal

abbrev pub decreases-loop-next : goal.decreases-loop-next
decreases-loop-next l = 256 * 256 * 256 * 256 * 256 - frame_place l.frame

abbrev pub invariant-loop-next : goal.invariant-loop-next
invariant-loop-next l = record {
  frame : IsFrame l.chi.elements l.frame;
  later : frame_place l.fn.start ≤ frame_place l.frame;
  none : HasNoneBetween l.chi (frame_place l.fn.start * 9 + 9) (frame_place l.frame * 9 + 9);
}
