use Rattle.std.proofs.Common.{ℕ, ◌≡◌, ◌<◌, get_or}
use Rattle.om_symmetry.specs.Permutations.{no_element}
use Rattle.om_least.proofs.beginning.Beginning.has.Given as goal

abbrev pub invariant-loop-i : goal.invariant-loop-i
invariant-loop-i l = (k : ℕ) → k < l.i → (get_or l.self-inside.table k no_element).element ≡ l.element → ⊥
