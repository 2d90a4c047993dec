use Rattle.om_members.specs.Scans.{AllBelow, nth}
use Rattle.om_convert.specs.Hitting.{IsNonzeroOn}
use Rattle.om_convert.proofs.hitting.missed_vector.Given as goal

abbrev pub invariant-loop-y : goal.invariant-loop-y
invariant-loop-y l = AllBelow l.y-index (λ k. IsNonzeroOn l.s.elements (nth l.vectors k))
