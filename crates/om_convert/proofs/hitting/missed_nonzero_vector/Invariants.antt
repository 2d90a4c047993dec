use Rattle.om_members.specs.Scans.{AllBelow, nth}
use Rattle.om_members.specs.Vectors.{IsZero}
use Rattle.om_convert.specs.Hitting.{IsNonzeroOn}
use Rattle.om_convert.proofs.hitting.missed_nonzero_vector.Given as goal

abbrev pub invariant-loop-y : goal.invariant-loop-y
invariant-loop-y l =
    AllBelow l.y-index (λ k. (IsZero (nth l.vectors k) → ⊥) → IsNonzeroOn l.s.elements (nth l.vectors k))
