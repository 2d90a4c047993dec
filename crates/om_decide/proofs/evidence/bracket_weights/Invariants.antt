use Rattle.std.proofs.Common.{◌≡◌, map}
use Rattle.om_decide.specs.Columns.{weight_on}
use Rattle.om_decide.proofs.evidence.bracket_weights.Given as goal

abbrev pub invariant-loop-bracket : goal.invariant-loop-bracket
invariant-loop-bracket l = (goal.iterator-loop-bracket).can_next l.bracket-iterator
    × (goal.iterator-loop-bracket).is_finite l.bracket-iterator
    × (l.weights ≡ map (λ p. weight_on p.0.elements p.1) l.yielded)
