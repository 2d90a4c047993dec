use Rattle.std.proofs.Common.{◌≡◌, ◌-◌}
use Rattle.std.specs.List.{remove}
use Rattle.om_signs.specs.declared.sign.Sign.TheVariants.{Zero}
use Rattle.om_signs.specs.SignVec.{at_element}
use Rattle.om_minors.proofs.GatheringLaws.{AreGathered}
use Rattle.om_minors.proofs.dropping.zero_without_place.Given as goal

abbrev pub invariant-loop-x : goal.invariant-loop-x
invariant-loop-x l = AreGathered (λ W X. (at_element W l.e ≡ Zero) × (remove W (l.e - 1) ≡ X)) l.vectors l.list
    l.x-index
