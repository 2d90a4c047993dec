use Rattle.std.proofs.Common.{ℕ, ◌<◌}
use Rattle.om_subsets.specs.Subsets.{subset_at, AreApart}
use Rattle.om_chirotope.specs.ThreeTerm.{IsBasis}
use Rattle.om_threeterm.proofs.exchanges.Bases.first_basis_apart.Given as goal

abbrev pub invariant-loop-k : goal.invariant-loop-k
invariant-loop-k l = (j : ℕ) → j < l.k
    → IsBasis l.self.map.now (subset_at l.self.map.now.elements l.self.map.now.rank j)
    → AreApart (subset_at l.self.map.now.elements l.self.map.now.rank j) l.set.elements → ⊥
