use Rattle.std.proofs.Common.{◌≡◌, ◌-◌, length}
use Rattle.om_chirotope.proofs.NumberedSets.{AreNumbered}
use Rattle.om_chirotope.proofs.Tables.{IsFilledBelow}
use Rattle.om_chirotope.proofs.cocircuit_table.fill.Given as goal

abbrev pub invariant-loop-place : goal.invariant-loop-place
invariant-loop-place l = record {
  can : (goal.iterator-loop-place).can_next l.place-iterator;
  finite : (goal.iterator-loop-place).is_finite l.place-iterator;
  numbered : AreNumbered (λ m. m.rank - 1) l.map l.initial.place-iterator;
  size : length l.table ≡ length l.fn.table;
  filled : IsFilledBelow l.map l.table (length l.yielded);
}
