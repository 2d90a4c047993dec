use Rattle.om_signs.specs.SignVec.{IsMaskOf}
use Rattle.om_chirotope.specs.Pictures.{IsLive}
use Rattle.om_chirotope.proofs.three_terms.live_rows.Given as goal

abbrev pub invariant-loop-i : goal.invariant-loop-i
invariant-loop-i l = IsMaskOf l.i (λ j. IsLive l.rows j) l.live
