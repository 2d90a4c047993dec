use Rattle.std.proofs.Common.{length}
use Rattle.om_convert.proofs.NormalSigns.{AreSigns}
use Rattle.om_convert.proofs.propagation.propagated_map.Given as goal

-- the signs of the sets that came
abbrev pub invariant-loop-t : goal.invariant-loop-t
invariant-loop-t l = (goal.iterator-loop-t).can_next l.t-iterator × (goal.iterator-loop-t).is_finite l.t-iterator
    × AreSigns l.elements l.rank l.vectors (length l.yielded) l.signs
