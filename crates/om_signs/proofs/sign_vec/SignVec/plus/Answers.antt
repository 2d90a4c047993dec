use Rattle.std.proofs.Common.{◌≡◌, ◌↔◌, refl}
use Rattle.om_signs.specs.declared.sign.Sign.{Sign}
use Rattle.om_signs.specs.declared.sign.Sign.TheVariants.{Minus, Zero, Plus}
use Rattle.om_signs.specs.Sign.{is_plus}
use Rattle.om_signs.specs.SignVec.{at}
use Rattle.om_signs.proofs.Views.{shows, length_is}
use Rattle.om_signs.proofs.sign_vec.SignVec.plus.Goals as goal

plus_bit : (s : Sign) → (is_plus s ≡ 1) ↔ (s ≡ Plus)
plus_bit Minus = (λ e. cc, λ e. cc)
plus_bit Zero = (λ e. cc, λ e. cc)
plus_bit Plus = (λ _. refl, λ _. refl)

pub returns : goal.returns
returns c =
    let f = shows _ _ _ _ c.self.invariant c.self.view_is in
    record {
      within = rw (length_is _ _ _ _ c.self.view_is) c.self.invariant.plus_within;
      holds = λ i lt. rw (f i).0 (plus_bit (at c.args.self i));
    }
