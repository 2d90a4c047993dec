use Rattle.om_levels.specs.Families.{IsHalfOf}
use Rattle.om_levels.proofs.Covering.{IsCovered}
use Rattle.om_levels.proofs.step.next_level.Given as goal

abbrev pub invariant-loop-member : goal.invariant-loop-member
invariant-loop-member g l =
    IsCovered (IsHalfOf l.family l.level.elements) l.level.maps l.next.maps l.member l.met.items
