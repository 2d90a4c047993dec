use Rattle.std.proofs.Common.{◌≡◌, map}
use Rattle.om_covers.specs.Growing.{grown_sign}
use Rattle.om_covers.proofs.growing.extension.Given as goal

-- the signs of the sets that came
abbrev pub invariant-loop-s : goal.invariant-loop-s
invariant-loop-s l = (goal.iterator-loop-s).can_next l.s-iterator × (goal.iterator-loop-s).is_finite l.s-iterator
    × (l.signs ≡ map (λ s. grown_sign l.chi l.signature s.elements) l.yielded)
