use Rattle.std.proofs.Common.{◌≡◌, length, take}
use Rattle.om_least.specs.Beginnings.{first_signs, first_image_signs}
use Rattle.om_least.proofs.comparing.compared_by_sets.Given as goal

abbrev pub invariant-loop-place : goal.invariant-loop-place
invariant-loop-place l =
    take l.place (first_image_signs l.chi l.beginning) ≡ take l.place (first_signs l.chi (length l.beginning))
