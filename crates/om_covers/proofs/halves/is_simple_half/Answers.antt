use Rattle.std.proofs.Common.{◌∙◌, refl, sym, subst, inl, inr, arith}
use Rattle.std.proofs.lemmas.Bool.{cases_eq, false≢true}
use Rattle.om_localize.specs.Circles.{IsZeroOn, signs_on_circle}
use Rattle.om_covers.proofs.halves.is_simple_half.Goals as goal

pub loop-f-preserved : goal.loop-f-preserved
loop-f-preserved c = λ h low lt zero. elim (cases_eq h c.loop-f.f) [
  | inl q ↦ false≢true (sym c.if-is_zero_with.false
      ∙ c.is_zero_with.ensures.1 (subst (λ k. IsZeroOn (signs_on_circle c.args.n c.args.signature k)) q zero))
  | inr d ↦ c.loop-f.invariant h low (omega arith) zero
]

pub returns : goal.returns
returns c = (
  λ t. record {
    led = c.is_led_by_minus.ensures.0 c.if-not-is_led_by_minus.false;
    apart = λ f e. c.loop-f.invariant f e.0 (let high = e.1 in omega arith);
  },
  λ h. refl,
)
