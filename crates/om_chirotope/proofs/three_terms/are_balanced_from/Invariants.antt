use Rattle.std.proofs.Common.{ℕ, ◌≡◌, ◌<◌}
use Rattle.std.specs.Int.{bit_at}
use Rattle.om_chirotope.specs.Pictures.{IsTriple}
use Rattle.om_chirotope.proofs.RowMasks.{IsCleared}
use Rattle.om_chirotope.proofs.three_terms.are_balanced_from.Given as goal

abbrev pub invariant-loop-rest : goal.invariant-loop-rest
invariant-loop-rest l =
    IsCleared l.later l.rest l.elements (λ j. (k : ℕ) → j < k → bit_at l.later k ≡ 1 → IsTriple l.rows l.x j k)

abbrev pub decreases-loop-rest : goal.decreases-loop-rest
decreases-loop-rest l = l.rest
