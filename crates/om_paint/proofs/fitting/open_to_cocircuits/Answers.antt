use Rattle.std.proofs.Common.{◌<◌, ◌+◌, ◌∙◌, get_or, sym, subst, ap, arith}
use Rattle.std.proofs.lemmas.List.{get_or_default}
use Rattle.om_laws.specs.Colours.{CocircuitMay}
use Rattle.om_oriented.specs.declared.colour.Colour.TheVariants.{Red, Black}
use Rattle.om_paint.specs.Paintings.{shade}
use Rattle.om_signs.specs.SignVec.{IsMaskOf}
use Rattle.om_paint.proofs.Masks.{mask_with, mask_without}
use Rattle.om_paint.proofs.fitting.open_to_cocircuits.Goals as goal
use Rattle.om_paint.proofs.fitting.open_to_cocircuits.Goals.{then-cocircuit_may, else-cocircuit_may}

pub loop-i-preserved : goal.loop-i-preserved
loop-i-preserved c =
    let few = c.requires.few in
    let lt = c.loop-i-test.true in
    let small : c.loop-i.i < 32 = omega (arith, few, lt) in
    let colour = ap shade (get_or_default c.args.colours.now c.loop-i.i Red Black lt) in
    elim c.if-cocircuit_may.branch [
      | then-cocircuit_may w ↦
          subst (IsMaskOf (c.loop-i.i + 1) (λ i. CocircuitMay (shade (get_or c.args.colours.now i Black)) c.args.sign))
          (sym w.mask-is)
          (mask_with (λ i. CocircuitMay (shade (get_or c.args.colours.now i Black)) c.args.sign) c.loop-i.i
          c.loop-i.mask c.loop-i.invariant small
          (subst (λ d. CocircuitMay d c.args.sign) colour (c.cocircuit_may.ensures.0 w.if-cocircuit_may.true)))
      | else-cocircuit_may w ↦
          subst (IsMaskOf (c.loop-i.i + 1) (λ i. CocircuitMay (shade (get_or c.args.colours.now i Black)) c.args.sign))
          (sym w.mask-is)
          (mask_without (λ i. CocircuitMay (shade (get_or c.args.colours.now i Black)) c.args.sign) c.loop-i.i
          c.loop-i.mask c.loop-i.invariant
          (λ may. let f = sym w.if-cocircuit_may.false
          ∙ c.cocircuit_may.ensures.1 (subst (λ d. CocircuitMay d c.args.sign) (sym colour) may) in cc))
    ]
