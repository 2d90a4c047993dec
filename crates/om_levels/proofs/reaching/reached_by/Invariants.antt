use Rattle.om_levels.specs.Families.{IsHalfOf}
use Rattle.om_levels.proofs.Places.{ArePlacesBelow}
use Rattle.om_levels.proofs.reaching.reached_by.Given as goal

abbrev pub invariant-loop-i : goal.invariant-loop-i
invariant-loop-i g l = ArePlacesBelow (IsHalfOf l.fn.family l.chi.elements) l.chi l.fn.table.maps l.lines l.i l.places
