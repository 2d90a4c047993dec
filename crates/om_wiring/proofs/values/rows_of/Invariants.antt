use Rattle.std.proofs.Common.{◌≡◌, length, [], ◌∷◌}
use Rattle.om_signs.specs.declared.limits.TheConstants.{MAX_PLACES}
use Rattle.om_chirotope.proofs.Rows.{AreWritten}
use Rattle.om_wiring.proofs.values.rows_of.Given as goal

abbrev pub invariant-loop-x : goal.invariant-loop-x
invariant-loop-x l = (length l.rows ≡ MAX_PLACES) × AreWritten l.chi (l.p ∷ []) l.rows l.x
