use Rattle.std.proofs.Common.{◌<◌, ◌+◌, ◌∙◌, get_or, sym, subst, ap, arith}
use Rattle.std.proofs.lemmas.List.{get_or_default}
use Rattle.om_laws.specs.Colours.{CircuitMay}
use Rattle.om_oriented.specs.declared.colour.Colour.TheVariants.{Red, Black}
use Rattle.om_paint.specs.Paintings.{shade}
use Rattle.om_signs.specs.SignVec.{IsMaskOf}
use Rattle.om_paint.proofs.Masks.{mask_with, mask_without}
use Rattle.om_paint.proofs.fitting.open_to_circuits.Goals as goal
use Rattle.om_paint.proofs.fitting.open_to_circuits.Goals.{then-circuit_may, else-circuit_may}

pub loop-i-preserved : goal.loop-i-preserved
loop-i-preserved c =
    let few = c.requires.few in
    let lt = c.loop-i-test.true in
    let small : c.loop-i.i < 32 = omega (arith, few, lt) in
    let colour = ap shade (get_or_default c.args.colours.now c.loop-i.i Red Black lt) in
    elim c.if-circuit_may.branch [
      | then-circuit_may w ↦
          subst (IsMaskOf (c.loop-i.i + 1) (λ i. CircuitMay (shade (get_or c.args.colours.now i Black)) c.args.sign))
          (sym w.mask-is)
          (mask_with (λ i. CircuitMay (shade (get_or c.args.colours.now i Black)) c.args.sign) c.loop-i.i c.loop-i.mask
          c.loop-i.invariant small
          (subst (λ d. CircuitMay d c.args.sign) colour (c.circuit_may.ensures.0 w.if-circuit_may.true)))
      | else-circuit_may w ↦
          subst (IsMaskOf (c.loop-i.i + 1) (λ i. CircuitMay (shade (get_or c.args.colours.now i Black)) c.args.sign))
          (sym w.mask-is)
          (mask_without (λ i. CircuitMay (shade (get_or c.args.colours.now i Black)) c.args.sign) c.loop-i.i
          c.loop-i.mask c.loop-i.invariant
          (λ may. let f = sym w.if-circuit_may.false
          ∙ c.circuit_may.ensures.1 (subst (λ d. CircuitMay d c.args.sign) (sym colour) may) in cc))
    ]
