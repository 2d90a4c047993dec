use Rattle.std.proofs.Common.{arith}
use Rattle.om_grassmann.specs.Walk.{frame_place}
use Rattle.om_grassmann.proofs.walk.first_after.Goals as goal

pub loop-next-smaller : goal.loop-next-smaller
unfolding frame_place
loop-next-smaller c = omega (arith, c.in-Some.ensures.later, c.in-Some.ensures.frame)
