use Rattle.std.proofs.Common.{◌-◌, length}
use Rattle.om_chirotope.specs.Map.{cocircuit_vector}
use Rattle.om_denotation.specs.Listings.{AreAllOf}
use Rattle.om_convert.proofs.PlaceLaws.{IsOfPlace}
use Rattle.om_convert.proofs.vectors.all_cocircuits.Given as goal

-- the vectors of the sets that came are gathered
abbrev pub invariant-loop-a : goal.invariant-loop-a
invariant-loop-a l = (goal.iterator-loop-a).can_next l.a-iterator × (goal.iterator-loop-a).is_finite l.a-iterator
    × AreAllOf (IsOfPlace (cocircuit_vector l.chi) l.chi.elements (l.chi.rank - 1) (length l.yielded)) l.cocircuits
