use Rattle.std.proofs.Common.{◌≡◌, map}
use Rattle.om_vectors.specs.Realizations.{triple_sign}
use Rattle.om_vectors.proofs.signs.signs_in_order.Given as goal

abbrev pub invariant-loop-s : goal.invariant-loop-s
invariant-loop-s l = (goal.iterator-loop-s).can_next l.s-iterator × (goal.iterator-loop-s).is_finite l.s-iterator
    × (l.signs ≡ map (λ s. triple_sign l.vectors s.elements) l.yielded)
