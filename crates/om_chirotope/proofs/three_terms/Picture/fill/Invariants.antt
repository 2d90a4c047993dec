use Rattle.om_chirotope.proofs.Rows.{AreWritten}
use Rattle.om_chirotope.proofs.three_terms.Picture.fill.Given as goal

abbrev pub invariant-loop-x : goal.invariant-loop-x
invariant-loop-x l = AreWritten l.self.map.now l.self.p.elements l.rows l.x
