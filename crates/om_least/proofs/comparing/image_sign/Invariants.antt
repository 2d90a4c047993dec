use Rattle.std.proofs.Common.{◌≡◌, length}
use Rattle.om_laws.specs.Sorting.{IsElement, Each}
use Rattle.om_symmetry.proofs.Tuples.{IsTupleTo}
use Rattle.om_least.proofs.comparing.image_sign.Given as goal

abbrev pub invariant-loop-place : goal.invariant-loop-place
invariant-loop-place l = record {
  state : IsTupleTo l.beginning l.fn.s.elements l.tuple l.place l.sign l.rest.elements;
  n : l.rest.n ≡ l.fn.s.n;
  first : Each (IsElement (length l.beginning)) l.rest.elements;
}
