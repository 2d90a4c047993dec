use Rattle.std.proofs.Common.{get_or}
use Rattle.om_signs.specs.SignVec.{IsMaskOf}
use Rattle.om_laws.specs.Colours.{CocircuitMay}
use Rattle.om_oriented.specs.declared.colour.Colour.TheVariants.{Black}
use Rattle.om_paint.specs.Paintings.{shade}
use Rattle.om_paint.proofs.fitting.open_to_cocircuits.Given as goal

abbrev pub invariant-loop-i : goal.invariant-loop-i
invariant-loop-i l = IsMaskOf l.i (λ i. CocircuitMay (shade (get_or l.colours i Black)) l.sign) l.mask
