use Rattle.om_members.specs.Vectors.{IsZero}
use Rattle.om_members.specs.Scans.{AllBelow, nth}
use Rattle.om_covectors.proofs.closure.has_zero.Given as goal

abbrev pub invariant-loop-x : goal.invariant-loop-x
invariant-loop-x l = AllBelow l.x-index (λ k. IsZero (nth l.members k) → ⊥)
