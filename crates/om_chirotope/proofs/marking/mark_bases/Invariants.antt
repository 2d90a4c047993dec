use Rattle.std.proofs.Common.{length}
use Rattle.om_chirotope.proofs.Marks.{AreBasesMarkedBelow}
use Rattle.om_chirotope.proofs.NumberedSets.{AreNumbered}
use Rattle.om_chirotope.proofs.marking.mark_bases.Given as goal

abbrev pub invariant-loop-place : goal.invariant-loop-place
invariant-loop-place l = record {
  can : (goal.iterator-loop-place).can_next l.place-iterator;
  finite : (goal.iterator-loop-place).is_finite l.place-iterator;
  numbered : AreNumbered (λ m. m.rank) l.map l.initial.place-iterator;
  marked : AreBasesMarkedBelow l.map l.words (length l.yielded);
}
