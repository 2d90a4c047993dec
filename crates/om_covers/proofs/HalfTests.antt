-- What the loop over the pairs with an element keeps.
use Rattle.std.proofs.Common.{ℕ, ◌≡◌, ◌<◌, ◌≤◌, List}
use Rattle.om_signs.specs.declared.sign.Sign.{Sign}
use Rattle.om_signs.specs.declared.sign.Sign.TheVariants.{Zero}
use Rattle.om_localize.specs.Circles.{signs_on_circle}

-- the signs at f and the elements below g are zero
abbrev pub AreZeroBeside : ℕ → List Sign → ℕ → ℕ → Type 0
AreZeroBeside n signs f g = (h : ℕ) → 1 ≤ h → h < g → signs_on_circle n signs f h ≡ Zero
