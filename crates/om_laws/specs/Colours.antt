-- Colourings of the elements in four colours, for the painting lemma.
--
-- Reference: Björner, Las Vergnas, Sturmfels, White and Ziegler, Oriented Matroids, chapter 3.
use Rattle.std.specs.Prelude.{ℕ, ◌≡◌, ◌≢◌}
use Rattle.om_signs.specs.declared.sign.Sign.{Sign}
use Rattle.om_signs.specs.declared.sign.Sign.TheVariants.{Minus, Zero, Plus}
use Rattle.om_laws.specs.Signs.{IsNonzero}
use Rattle.om_laws.specs.Vectors.{SignVector}

pub data Colour : Type 0 where
  red : Colour
  green : Colour
  black : Colour
  white : Colour

-- red or green
abbrev pub IsColoured : Colour → Type 0
IsColoured red = Unit {0}
IsColoured green = Unit {0}
IsColoured black = ⊥
IsColoured white = ⊥

-- the signs that a colour allows in a circuit. Red: plus and zero. Green: minus and zero. Black: all. White: zero
abbrev pub CircuitMay : Colour → Sign → Type 0
CircuitMay red s = s ≢ Minus
CircuitMay green s = s ≢ Plus
CircuitMay black s = Unit {0}
CircuitMay white s = s ≡ Zero

-- the signs that a colour allows in a cocircuit. Red: plus and zero. Green: minus and zero. Black: zero. White: all
abbrev pub CocircuitMay : Colour → Sign → Type 0
CocircuitMay red s = s ≢ Minus
CocircuitMay green s = s ≢ Plus
CocircuitMay black s = s ≡ Zero
CocircuitMay white s = Unit {0}

-- some circuit that is nonzero at e and that the colours allow
abbrev pub SomeCircuit : (SignVector → Type 0) → (ℕ → Colour) → ℕ → Type 0
SomeCircuit C c e = (X : SignVector) × C X × IsNonzero (X e) × ((f : ℕ) → CircuitMay (c f) (X f))

-- some cocircuit that is nonzero at e and that the colours allow
abbrev pub SomeCocircuit : (SignVector → Type 0) → (ℕ → Colour) → ℕ → Type 0
SomeCocircuit D c e = (Y : SignVector) × D Y × IsNonzero (Y e) × ((f : ℕ) → CocircuitMay (c f) (Y f))
