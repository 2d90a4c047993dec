use Rattle.std.proofs.Common.{ℕ, ◌<◌}
use Rattle.om_laws.specs.Sorting.{IsElement}
use Rattle.om_mutate.specs.Turns.{StaysBalancedWith}
use Rattle.om_mutate.proofs.relations.stays_balanced_at.Given as goal

abbrev pub invariant-loop-z : goal.invariant-loop-z
invariant-loop-z l = (z : ℕ) → IsElement l.chi.elements z → z < l.z → StaysBalancedWith l.chi l.p l.x l.y z
