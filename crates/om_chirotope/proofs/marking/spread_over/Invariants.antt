use Rattle.om_chirotope.proofs.Words.{IsSpreadBelow}
use Rattle.om_chirotope.proofs.marking.spread_over.Given as goal

abbrev pub invariant-loop-i : goal.invariant-loop-i
invariant-loop-i l = IsSpreadBelow l.fn.words l.words l.d l.i
