use Rattle.om_members.specs.Scans.{AllBelow, nth}
use Rattle.om_circuits.specs.Scans.{IsWithin}
use Rattle.om_circuits.proofs.elimination.has_within.Given as goal

abbrev pub invariant-loop-z : goal.invariant-loop-z
invariant-loop-z l = AllBelow l.z-index (λ k. IsWithin l.plus l.minus (nth l.members k) → ⊥)
