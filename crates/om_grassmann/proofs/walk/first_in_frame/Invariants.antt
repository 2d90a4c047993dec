use Rattle.std.proofs.Common.{◌+◌, ◌*◌}
use Rattle.om_chirotope.specs.Map.{SignMap}
use Rattle.om_grassmann.specs.Walk.{frame_place, HasNoneBetween, AreTermsOn}
use Rattle.om_grassmann.proofs.walk.first_in_frame.Given as goal

abbrev pub invariant-loop-direction : goal.invariant-loop-direction
invariant-loop-direction l = (m : SignMap) → AreTermsOn m l.frame l.terms
    → HasNoneBetween m (frame_place l.frame * 9 + l.fn.from) (frame_place l.frame * 9 + l.direction)
