use Rattle.std.proofs.Common.{◌≡◌, take}
use Rattle.om_symmetry.proofs.signed_permutation.SignedPermutation.lift.Given as goal

abbrev pub invariant-loop-a : goal.invariant-loop-a
invariant-loop-a l = l.entries ≡ take l.a-index l.a-items
