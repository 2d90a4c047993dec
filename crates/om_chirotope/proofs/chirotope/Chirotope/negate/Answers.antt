use Rattle.std.proofs.Common.{sym, subst}
use Rattle.om_chirotope.specs.Map.{map_of}
use Rattle.om_chirotope.specs.Chirotope.{IsChirotopeWithinLimits}
use Rattle.om_chirotope.proofs.Negation.{negated_sound}
use Rattle.om_chirotope.proofs.chirotope.Chirotope.negate.Goals as goal

pub invariant_of-result : goal.invariant_of-result
invariant_of-result c =
    subst IsChirotopeWithinLimits (sym c.negation.ensures) (negated_sound (map_of c.self.inside.raw) c.self.invariant)
