use Rattle.std.proofs.Common.{◌≡◌}
use Rattle.om_symmetry.proofs.Tuples.{IsTupleTo}
use Rattle.om_symmetry.proofs.signed_permutation.SignedPermutation.image_sign.Given as goal

abbrev pub invariant-loop-place : goal.invariant-loop-place
invariant-loop-place l = record {
  state : IsTupleTo l.entries l.fn.s.elements l.tuple l.place l.sign l.rest.elements;
  n : l.rest.n ≡ l.fn.s.n;
}
