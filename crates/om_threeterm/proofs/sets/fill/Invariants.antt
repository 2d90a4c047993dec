use Rattle.std.proofs.Common.{◌≤◌, length}
use Rattle.om_chirotope.proofs.NumberedSets.{AreNumbered}
use Rattle.om_threeterm.proofs.SetLaws.{IsFilledBelow, numbers}
use Rattle.om_threeterm.proofs.sets.fill.Given as goal

abbrev pub invariant-loop-place : goal.invariant-loop-place
invariant-loop-place l = record {
  can : (goal.iterator-loop-place).can_next l.place-iterator;
  finite : (goal.iterator-loop-place).is_finite l.place-iterator;
  numbered : AreNumbered (λ m. m.rank) (numbers l.elements l.size) l.initial.place-iterator;
  within : length l.yielded ≤ length l.table;
  filled : IsFilledBelow l.elements l.size l.table (length l.yielded);
}
