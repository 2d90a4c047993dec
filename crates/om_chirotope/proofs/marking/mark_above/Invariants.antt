use Rattle.om_chirotope.proofs.Marks.{AreMarkedUpTo}
use Rattle.om_chirotope.proofs.marking.mark_above.Given as goal

abbrev pub invariant-loop-e : goal.invariant-loop-e
invariant-loop-e l = AreMarkedUpTo l.map l.words l.e
