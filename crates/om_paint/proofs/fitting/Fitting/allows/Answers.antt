use Rattle.std.proofs.Common.{◌≡◌, ◌≢◌, ◌<◌, ◌^◌, true, false, sym, subst, arith, rules}
use Rattle.om_signs.specs.declared.sign.Sign.TheVariants.{Plus, Zero, Minus}
use Rattle.om_signs.proofs.SignLaws.{plus_nonzero, minus_nonzero}
use Rattle.om_paint.proofs.Masks.{within_both}
use Rattle.om_paint.proofs.fitting.Fitting.allows.Goals as goal

pub returns-then-plus-self-ne0 : goal.returns-then-plus-self-ne0
returns-then-plus-self-ne0 c =
    let small : c.args.self.now.may_be_plus < 2 ^ 32 = omega arith in (
      λ t. absurd (let f : false ≡ true = t in cc),
      λ h. absurd
          (c.if-plus-self-ne0.true
          ((within_both c.args.x Plus plus_nonzero c.plus.result c.plus.ensures c.plus.type_inv
          c.args.self.now.may_be_plus small).1 h.1)),
    )

pub returns-then-minus-self-ne0 : goal.returns-then-minus-self-ne0
returns-then-minus-self-ne0 c =
    let small : c.args.self.now.may_be_minus < 2 ^ 32 = omega arith in (
      λ t. absurd (let f : false ≡ true = t in cc),
      λ h. absurd
          (c.if-minus-self-ne0.true
          ((within_both c.args.x Minus minus_nonzero c.minus.result c.minus.ensures c.minus.type_inv
          c.args.self.now.may_be_minus small).1 h.2)),
    )

pub returns : goal.returns
returns c =
    let small : c.args.self.now.may_be_plus < 2 ^ 32 = omega arith in
    let small' : c.args.self.now.may_be_minus < 2 ^ 32 = omega arith in
    let pluses =
    (within_both c.args.x Plus plus_nonzero c.plus.result c.plus.ensures c.plus.type_inv
    c.args.self.now.may_be_plus small).0 c.if-plus-self-ne0.false in
    let minuses =
    (within_both c.args.x Minus minus_nonzero c.minus.result c.minus.ensures c.minus.type_inv
    c.args.self.now.may_be_minus small').0 c.if-minus-self-ne0.false in (
      λ t. (subst (λ s. s ≢ Zero) c.get.ensures (search (rules, t)), pluses, minuses),
      λ h. (let n = subst (λ s. s ≢ Zero) (sym c.get.ensures) h.0 in search (rules, n)),
    )
