use Rattle.std.proofs.Common.{ℕ, ◌-◌, ◌*◌, ◌<◌, length}
use Rattle.om_laws.specs.Members.{IsMember}
use Rattle.om_laws.specs.Sorting.{IsElement}
use Rattle.om_symmetry.specs.Permutations.{elements_of}
use Rattle.om_least.proofs.Entries.{IsTried}
use Rattle.om_least.proofs.search.+walk.Given as goal

abbrev pub decreases-lesser_behind : goal.decreases-lesser_behind
decreases-lesser_behind l = 2 * (l.chi.now.elements - length l.beginning.now)

abbrev pub decreases-lesser_with : goal.decreases-lesser_with
decreases-lesser_with l = 2 * (l.chi.now.elements - length l.beginning.now) - 1

abbrev pub invariant-lesser_behind-loop-element : goal.invariant-lesser_behind-loop-element
invariant-lesser_behind-loop-element l = (e : ℕ) → IsElement l.chi.elements e → e < l.element
    → (IsMember e (elements_of l.beginning) → ⊥) → IsTried l.chi l.beginning e
