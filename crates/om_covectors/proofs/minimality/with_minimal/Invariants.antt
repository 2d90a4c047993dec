use Rattle.std.proofs.Common.{take}
use Rattle.om_covectors.specs.Minimality.{IsMinimal, AreThose}
use Rattle.om_covectors.proofs.minimality.with_minimal.Given as goal

abbrev pub invariant-loop-x : goal.invariant-loop-x
invariant-loop-x l = AreThose (IsMinimal l.vectors) (take l.x-index l.vectors) l.minimal
