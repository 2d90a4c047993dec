use Rattle.std.proofs.Common.{◌+◌, length}
use Rattle.om_chirotope.specs.Map.{circuit_vector}
use Rattle.om_paint.proofs.Firsts.{AreFirsts}
use Rattle.om_paint.proofs.search.first_circuits.Given as goal

-- the vectors of the sets that came have been met
abbrev pub invariant-loop-s : goal.invariant-loop-s
invariant-loop-s g l = (goal.iterator-loop-s g).can_next l.s-iterator
    × (goal.iterator-loop-s g).is_finite l.s-iterator
    × AreFirsts (circuit_vector l.chi) (g.C.Classes.holds l.classes) l.chi.elements (l.chi.rank + 1) (length l.yielded)
    l.firsts
