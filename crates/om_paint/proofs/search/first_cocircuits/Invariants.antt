use Rattle.std.proofs.Common.{◌-◌, length}
use Rattle.om_chirotope.specs.Map.{cocircuit_vector}
use Rattle.om_paint.proofs.Firsts.{AreFirsts}
use Rattle.om_paint.proofs.search.first_cocircuits.Given as goal

-- the vectors of the sets that came have been met
abbrev pub invariant-loop-a : goal.invariant-loop-a
invariant-loop-a g l = (goal.iterator-loop-a g).can_next l.a-iterator
    × (goal.iterator-loop-a g).is_finite l.a-iterator
    × AreFirsts (cocircuit_vector l.chi) (g.C.Classes.holds l.classes) l.chi.elements (l.chi.rank - 1)
    (length l.yielded) l.firsts
