use Rattle.std.proofs.Common.{◌≡◌, map}
use Rattle.om_chirotope.specs.Map.{value_of}
use Rattle.om_symmetry.specs.Permutations.{image_value}
use Rattle.om_symmetry.proofs.signed_permutation.SignedPermutation.act.Given as goal

-- the signs of the sets that came
abbrev pub invariant-loop-s : goal.invariant-loop-s
invariant-loop-s l = (goal.iterator-loop-s).can_next l.s-iterator × (goal.iterator-loop-s).is_finite l.s-iterator
    × (l.signs ≡ map (λ s. image_value l.self (value_of l.chi) s.elements) l.yielded)
