use Rattle.om_chirotope.specs.Pictures.{IsTriple}
use Rattle.om_chirotope.proofs.RowMasks.{IsCleared}
use Rattle.om_chirotope.proofs.three_terms.are_balanced_with.Given as goal

abbrev pub invariant-loop-rest : goal.invariant-loop-rest
invariant-loop-rest l = IsCleared l.later l.rest l.elements (λ k. IsTriple l.rows l.x l.y k)

abbrev pub decreases-loop-rest : goal.decreases-loop-rest
decreases-loop-rest l = l.rest
