use Rattle.std.proofs.Common.{◌∙◌, ap, refl, sym, subst}
use Rattle.std.proofs.lemmas.Bool.{false≢true}
use Rattle.om_signs.specs.declared.sign.Sign.TheVariants.{Minus, Plus}
use Rattle.om_chirotope.specs.Map.{IsLedBy}
use Rattle.om_chirotope.specs.Chirotope.{IsChirotope}
use Rattle.om_chirotope.proofs.Negation.{led_by_plus, led_negated}
use Rattle.om_chirotope.proofs.chirotope.Chirotope.normal.Goals as goal

pub returns-then-is_led_by_minus-clause-normal : goal.returns-then-is_led_by_minus-clause-normal
returns-then-is_led_by_minus-clause-normal c =
    let signs = c.as_slice.ensures ∙ ap (λ m. m.signs) c.self.view_is in
    subst (IsLedBy Plus) (sym (ap (λ m. m.signs) c.negate.ensures))
    (led_negated c.args.self.signs (subst (IsLedBy Minus) signs (c.if-is_led_by_minus.ensures.0 refl)))

pub returns-else-is_led_by_minus-clause-normal : goal.returns-else-is_led_by_minus-clause-normal
returns-else-is_led_by_minus-clause-normal c =
    let signs = c.as_slice.ensures ∙ ap (λ m. m.signs) c.self.view_is in
    led_by_plus c.args.self (subst IsChirotope c.self.view_is c.self.invariant.axioms)
    (λ h. false≢true (c.if-is_led_by_minus.ensures.1 (subst (IsLedBy Minus) (sym signs) h)))
