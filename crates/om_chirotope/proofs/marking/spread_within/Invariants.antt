use Rattle.om_chirotope.proofs.Words.{AreSpreadBelow}
use Rattle.om_chirotope.proofs.marking.spread_within.Given as goal

abbrev pub invariant-loop-word : goal.invariant-loop-word
invariant-loop-word l = AreSpreadBelow l.fn.words l.words l.e l.word-index
