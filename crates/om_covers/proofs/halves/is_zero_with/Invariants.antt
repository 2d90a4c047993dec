use Rattle.om_covers.proofs.HalfTests.{AreZeroBeside}
use Rattle.om_covers.proofs.halves.is_zero_with.Given as goal

abbrev pub invariant-loop-g : goal.invariant-loop-g
invariant-loop-g l = AreZeroBeside l.n l.signature l.f l.g
