use Rattle.std.proofs.Common.{ℕ, ◌<◌}
use Rattle.om_subsets.specs.Subsets.{IsMember}
use Rattle.om_subsets.proofs.subset.Subset.least.Given as goal

abbrev pub invariant-loop-e : goal.invariant-loop-e
invariant-loop-e l = (k : ℕ) → k < l.e → IsMember k l.self.elements → ⊥
