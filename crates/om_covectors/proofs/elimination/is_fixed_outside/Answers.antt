use Rattle.std.proofs.lemmas.Bool.{eq-eqb, eqb-true}
use Rattle.om_signs.specs.SignVec.{IsPlus, IsMinus}
use Rattle.om_members.proofs.MaskLaws.{plus_bit, minus_bit}
use Rattle.om_covectors.proofs.EliminationLaws.{fixed_mask}
use Rattle.om_covectors.proofs.elimination.is_fixed_outside.Goals as goal

pub returns-then-plus-free : goal.returns-then-plus-free
returns-then-plus-free c =
    let pluses = fixed_mask (IsPlus c.args.z) c.plus.result c.args.free c.args.plus c.plus.type_inv c.ranges.free.fits
    (plus_bit c.args.z c.plus.result c.plus.ensures) in
    let minuses = fixed_mask (IsMinus c.args.z) c.minus.result c.args.free c.args.minus c.minus.type_inv
    c.ranges.free.fits (minus_bit c.args.z c.minus.result c.minus.ensures) in (
      λ t. record { pluses = pluses.0 c.if-plus-free.true; minuses = minuses.0 (eqb-true _ _ t) },
      λ h. eq-eqb _ _ (minuses.1 h.minuses),
    )

pub returns-else-plus-free : goal.returns-else-plus-free
returns-else-plus-free c = (
  λ t. absurd (c.if-plus-free.false (eqb-true _ _ t)),
  λ h. absurd
      (c.if-plus-free.false
      ((fixed_mask (IsPlus c.args.z) c.plus.result c.args.free c.args.plus c.plus.type_inv c.ranges.free.fits
      (plus_bit c.args.z c.plus.result c.plus.ensures)).1 h.pluses)),
)
