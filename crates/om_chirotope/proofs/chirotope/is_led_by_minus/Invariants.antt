use Rattle.std.proofs.Common.{◌≡◌, ◌<◌, ℕ}
use Rattle.om_signs.specs.declared.sign.Sign.TheVariants.{Zero}
use Rattle.om_signs.specs.SignVec.{at}
use Rattle.om_chirotope.proofs.chirotope.is_led_by_minus.Given as goal

abbrev pub invariant-loop-sign : goal.invariant-loop-sign
invariant-loop-sign l = (k : ℕ) → k < l.sign-index → at l.signs k ≡ Zero
