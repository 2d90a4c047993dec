use Rattle.om_printing.proofs.Elements.{IsJoined}
use Rattle.om_printing.proofs.pieces.push_elements.Given as goal

abbrev pub invariant-loop-e : goal.invariant-loop-e
invariant-loop-e l = IsJoined l.initial.text.items l.text.items l.e l.before l.subset.elements
