use Rattle.om_least.proofs.Completing.{IsFilled}
use Rattle.om_least.proofs.image.completed.Given as goal

abbrev pub invariant-loop-element : goal.invariant-loop-element
invariant-loop-element l = IsFilled l.elements l.initial.entries l.entries l.element
