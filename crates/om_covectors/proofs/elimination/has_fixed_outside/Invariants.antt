use Rattle.om_members.specs.Scans.{AllBelow, nth}
use Rattle.om_covectors.specs.Scans.{IsFixedOutside}
use Rattle.om_covectors.proofs.elimination.has_fixed_outside.Given as goal

abbrev pub invariant-loop-z : goal.invariant-loop-z
invariant-loop-z l = AllBelow l.z-index (λ k. IsFixedOutside l.free l.plus l.minus (nth l.members k) → ⊥)
