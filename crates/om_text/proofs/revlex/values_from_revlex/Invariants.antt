use Rattle.std.proofs.Common.{◌≡◌, map}
use Rattle.om_text.proofs.RevlexValues.{value_at}
use Rattle.om_text.proofs.revlex.values_from_revlex.Given as goal

-- the values of the sets that came
abbrev pub invariant-loop-set : goal.invariant-loop-set
invariant-loop-set l = (goal.iterator-loop-set).can_next l.set-iterator
    × (goal.iterator-loop-set).is_finite l.set-iterator × (l.signs ≡ map (λ s. value_at l.map s.elements) l.yielded)
