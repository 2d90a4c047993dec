use Rattle.std.proofs.Common.{◌≡◌, ◌-◌}
use Rattle.om_symmetry.specs.Permutations.{identity}
use Rattle.om_symmetry.proofs.signed_permutation.SignedPermutation.identity.Given as goal

abbrev pub invariant-loop-element : goal.invariant-loop-element
invariant-loop-element l = l.entries ≡ identity (l.element - 1)
