use Rattle.om_levels.proofs.Images.{AreImagesBelow}
use Rattle.om_levels.proofs.table.images_of.Given as goal

abbrev pub invariant-loop-place : goal.invariant-loop-place
invariant-loop-place l = AreImagesBelow l.members l.images l.place
