use Rattle.std.proofs.Common.{◌≡◌, length}
use Rattle.om_chirotope.proofs.NumberedSets.{AreNumbered}
use Rattle.om_chirotope.specs.Map.{map_of}
use Rattle.om_minors.proofs.Turning.{AreTurnedTo}
use Rattle.om_minors.proofs.reorientation.turned.Given as goal

abbrev pub invariant-loop-place : goal.invariant-loop-place
invariant-loop-place l = record {
  can : (goal.iterator-loop-place).can_next l.place-iterator;
  finite : (goal.iterator-loop-place).is_finite l.place-iterator;
  numbered : AreNumbered (λ m. m.rank) (map_of l.fn.raw) l.initial.place-iterator;
  rank : l.turned.rank ≡ l.fn.raw.rank;
  elements : l.turned.elements ≡ l.fn.raw.elements;
  turned : AreTurnedTo (map_of l.fn.raw) l.fn.mask l.turned.signs (length l.yielded);
}
