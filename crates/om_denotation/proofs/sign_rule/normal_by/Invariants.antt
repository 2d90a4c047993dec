use Rattle.std.proofs.Common.{◌≡◌, map}
use Rattle.om_denotation.proofs.sign_rule.normal_by.Given as goal

-- the signs of the sets that came
abbrev pub invariant-loop-s : goal.invariant-loop-s
invariant-loop-s g l = (goal.iterator-loop-s g).can_next l.s-iterator × (goal.iterator-loop-s g).is_finite l.s-iterator
    × (l.signs ≡ map (λ s. g.T.SignRule.rule l.rule s.elements) l.yielded)
