use Rattle.std.proofs.Common.{◌≡◌, ◌↔◌, refl}
use Rattle.om_signs.specs.declared.sign.Sign.{Sign}
use Rattle.om_signs.specs.declared.sign.Sign.TheVariants.{Minus, Zero, Plus}
use Rattle.om_signs.specs.Sign.{is_minus}
use Rattle.om_signs.specs.SignVec.{at}
use Rattle.om_signs.proofs.Views.{shows, length_is}
use Rattle.om_signs.proofs.sign_vec.SignVec.minus.Goals as goal

minus_bit : (s : Sign) → (is_minus s ≡ 1) ↔ (s ≡ Minus)
minus_bit Minus = (λ _. refl, λ _. refl)
minus_bit Zero = (λ e. cc, λ e. cc)
minus_bit Plus = (λ e. cc, λ e. cc)

pub returns : goal.returns
returns c =
    let f = shows _ _ _ _ c.self.invariant c.self.view_is in
    record {
      within = rw (length_is _ _ _ _ c.self.view_is) c.self.invariant.minus_within;
      holds = λ i lt. rw (f i).1 (minus_bit (at c.args.self i));
    }
