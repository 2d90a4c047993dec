use Rattle.om_least.proofs.Tables.{IsFilledTo}
use Rattle.om_least.proofs.values.values_of.Given as goal

abbrev pub invariant-loop-place : goal.invariant-loop-place
invariant-loop-place l = IsFilledTo l.chi l.values l.place
