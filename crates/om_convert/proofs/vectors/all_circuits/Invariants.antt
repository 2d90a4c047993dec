use Rattle.std.proofs.Common.{◌+◌, length}
use Rattle.om_chirotope.specs.Map.{circuit_vector}
use Rattle.om_denotation.specs.Listings.{AreAllOf}
use Rattle.om_convert.proofs.PlaceLaws.{IsOfPlace}
use Rattle.om_convert.proofs.vectors.all_circuits.Given as goal

-- the vectors of the sets that came are gathered
abbrev pub invariant-loop-s : goal.invariant-loop-s
invariant-loop-s l = (goal.iterator-loop-s).can_next l.s-iterator × (goal.iterator-loop-s).is_finite l.s-iterator
    × AreAllOf (IsOfPlace (circuit_vector l.chi) l.chi.elements (l.chi.rank + 1) (length l.yielded)) l.circuits
