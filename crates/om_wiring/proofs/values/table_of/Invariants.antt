use Rattle.std.proofs.Common.{◌≡◌, length}
use Rattle.om_signs.specs.declared.limits.TheConstants.{MAX_PLACES}
use Rattle.om_wiring.specs.Tables.{HasRowsBelow}
use Rattle.om_wiring.proofs.values.table_of.Given as goal

abbrev pub invariant-loop-p : goal.invariant-loop-p
invariant-loop-p l = (length l.table ≡ MAX_PLACES) × HasRowsBelow l.chi l.table l.p
