use Rattle.om_text.proofs.Joined.{HasFirstSigns}
use Rattle.om_text.proofs.body_lines.sign_vector.Given as goal

abbrev pub invariant-loop-b : goal.invariant-loop-b
invariant-loop-b l = HasFirstSigns l.elements l.line l.b-index l.e l.vector
