-- Classes of sign vectors: those that masks allow, and those with at most one minus. Elements count from 1.
use Rattle.std.specs.Prelude.{ℕ, ◌≡◌, ◌≢◌, ◌+◌, ◌↔◌, List}
use Rattle.std.specs.Int.{bit_at}
use Rattle.om_signs.specs.declared.sign.Sign.{Sign}
use Rattle.om_signs.specs.declared.sign.Sign.TheVariants.{Minus, Zero, Plus}
use Rattle.om_signs.specs.SignVec.{at, at_element}

-- not zero at e, plus only at places of one mask, and minus only at places of the other
abbrev pub IsAllowed : ℕ → ℕ → ℕ → List Sign → Type 0
IsAllowed plus minus e X = (at_element X e ≢ Zero) × ((i : ℕ) → at X i ≡ Plus → bit_at plus i ≡ 1)
    × ((i : ℕ) → at X i ≡ Minus → bit_at minus i ≡ 1)

-- minus at e and nowhere else; for e = 0, minus nowhere
abbrev pub HasMinusAloneAt : ℕ → List Sign → Type 0
HasMinusAloneAt e X = (i : ℕ) → (at X i ≡ Minus) ↔ (i + 1 ≡ e)
