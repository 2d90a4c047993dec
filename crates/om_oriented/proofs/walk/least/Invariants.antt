use Rattle.std.proofs.Common.{ℕ, ◌≡◌, ◌+◌, ◌<◌, length}
use Rattle.om_signs.specs.declared.sign.Sign.TheVariants.{Minus}
use Rattle.om_signs.specs.SignVec.{at}
use Rattle.om_oriented.proofs.walk.least.Given as goal

abbrev pub invariant-loop-e : goal.invariant-loop-e
invariant-loop-e l = (length l.x ≡ l.length) × ((k : ℕ) → k + 1 < l.e → at l.x k ≡ Minus)
