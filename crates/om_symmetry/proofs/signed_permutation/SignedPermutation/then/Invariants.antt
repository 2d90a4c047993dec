use Rattle.std.proofs.Common.{◌≡◌, take}
use Rattle.om_symmetry.specs.Permutations.{followed_by}
use Rattle.om_symmetry.proofs.signed_permutation.SignedPermutation.then.Given as goal

abbrev pub invariant-loop-a : goal.invariant-loop-a
invariant-loop-a l = l.entries ≡ followed_by l.self (take l.a-index l.a-items)
