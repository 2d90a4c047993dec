use Rattle.om_symmetry.specs.Permutations.{AreIsomorphic}
use Rattle.om_least.specs.Least.{signs_in_reverse}
use Rattle.om_least.proofs.Numbers.{place_of_signs}
use Rattle.om_least.proofs.image.least_image.Given as goal

abbrev pub invariant-loop-permutation : goal.invariant-loop-permutation
invariant-loop-permutation l = AreIsomorphic l.chi l.image

abbrev pub decreases-loop-permutation : goal.decreases-loop-permutation
decreases-loop-permutation l = place_of_signs (signs_in_reverse l.image)
