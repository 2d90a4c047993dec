use Rattle.std.proofs.Common.{length}
use Rattle.om_symmetry.proofs.Steps.{IsBackTo}
use Rattle.om_symmetry.proofs.signed_permutation.SignedPermutation.inverse.Given as goal

abbrev pub invariant-loop-i : goal.invariant-loop-i
invariant-loop-i l = IsBackTo (length l.self) l.self l.i l.entries
