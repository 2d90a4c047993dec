use Rattle.std.specs.Prelude.{ℕ, ◌<◌}
use Rattle.om_subsets.specs.Subsets.{IsMember}
use Rattle.om_commands.proofs.operation.first_of_mask.Given as goal

abbrev pub invariant-loop-e : goal.invariant-loop-e
invariant-loop-e l = (k : ℕ) → l.fn.n < k → k < l.e → IsMember k l.chosen.elements → ⊥
