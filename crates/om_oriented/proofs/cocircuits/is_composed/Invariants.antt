use Rattle.om_denotation.proofs.Compositions.{IsComposition}
use Rattle.om_oriented.proofs.cocircuits.is_composed.Given as goal

abbrev pub invariant-loop-y : goal.invariant-loop-y
invariant-loop-y l = IsComposition l.members l.x l.y-index l.composed
