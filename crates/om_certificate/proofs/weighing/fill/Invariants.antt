use Rattle.std.proofs.Common.{length, ◌-◌}
use Rattle.om_certificate.proofs.Filling.{IsFilling}
use Rattle.om_certificate.proofs.weighing.fill.Given as goal

abbrev pub invariant-loop-weight : goal.invariant-loop-weight
invariant-loop-weight l = IsFilling l.chi.elements l.weights (length l.weights - length l.yielded) l.table
