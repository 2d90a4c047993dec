-- Colourings of the elements, the sign vectors that fit them, and the lexicographically first one. Elements count from
-- 1.
--
-- Reference: Björner, Las Vergnas, Sturmfels, White and Ziegler, Oriented Matroids, chapter 3.
use Rattle.std.specs.Prelude.{ℕ, ◌≡◌, ◌≢◌, ◌-◌, ◌≤◌, ◌⊎◌, List, length, get_or, Option, None, Some}
use Rattle.std.specs.declared.cmp.Ordering.TheVariants.{Less}
use Rattle.om_signs.specs.declared.sign.Sign.{Sign}
use Rattle.om_signs.specs.declared.sign.Sign.TheVariants.{Minus, Zero}
use Rattle.om_signs.specs.SignVec.{at, at_element}
use Rattle.om_signs.specs.Order.{lexicographic}
use Rattle.om_laws.specs.Colours.{red, green, black, white, CircuitMay, CocircuitMay}
use Rattle.om_laws.specs.Colours as laws
use Rattle.om_chirotope.specs.Map.{SignMap}
use Rattle.om_denotation.specs.Circuits.{HasNonzero}
use Rattle.om_denotation.specs.Painting.{IsFittingCircuit, IsFittingCocircuit}
use Rattle.om_oriented.specs.declared.colour.Colour.{Colour}
use Rattle.om_oriented.specs.declared.colour.Colour.TheVariants.{Red, Green, Black, White}
use Rattle.om_oriented.specs.declared.painted.Painted.{Painted}
use Rattle.om_oriented.specs.declared.painted.Painted.TheVariants.{Circuit, Cocircuit}

-- the colour under its name in the painting lemma
abbrev pub shade : Colour → laws.Colour
shade Red = red
shade Green = green
shade Black = black
shade White = white

-- the colour of element e
abbrev pub colouring : List Colour → ℕ → laws.Colour
colouring colours e = shade (get_or colours (e - 1) Black)

-- not zero at e, and at every element a sign that the colours allow in a circuit
abbrev pub FitsCircuit : List Colour → ℕ → List Sign → Type 0
FitsCircuit colours e X = (at_element X e ≢ Zero)
    × ((f : ℕ) → 1 ≤ f → f ≤ length colours → CircuitMay (colouring colours f) (at_element X f))

-- not zero at e, and at every element a sign that the colours allow in a cocircuit
abbrev pub FitsCocircuit : List Colour → ℕ → List Sign → Type 0
FitsCocircuit colours e X = (at_element X e ≢ Zero)
    × ((f : ℕ) → 1 ≤ f → f ≤ length colours → CocircuitMay (colouring colours f) (at_element X f))

-- no sign is minus
abbrev pub HasNoMinus : List Sign → Type 0
HasNoMinus X = (i : ℕ) → at X i ≢ Minus

-- a member of the family such that none comes before it lexicographically
pub record IsFirst (P : List Sign → Type 0) (X : List Sign) : Type 0 where
  pub member : P X
  pub first : (Y : List Sign) → P Y → lexicographic Y X ≡ Less → ⊥

-- the first member of the family, or None if it has none
abbrev pub IsFirstIfAny : (List Sign → Type 0) → Option (List Sign) → Type 0
IsFirstIfAny P None = (X : List Sign) → P X → ⊥
IsFirstIfAny P (Some X) = IsFirst P X

-- the vector comes before the given one, if one is given
abbrev pub ComesBefore : List Sign → Option (List Sign) → Type 0
ComesBefore X None = Unit {0}
ComesBefore X (Some Y) = lexicographic X Y ≡ Less

-- X if it is nonzero, has the property Q and comes before the old one; otherwise the old one
abbrev pub IsEarlierOf : (List Sign → Type 0) → Option (List Sign) → List Sign → Option (List Sign) → Type 0
IsEarlierOf Q old X new = ((new ≡ Some X) × HasNonzero X × Q X × ComesBefore X old)
    ⊎ ((new ≡ old) × (HasNonzero X → Q X → ComesBefore X old → ⊥))

-- the first circuit that fits a colouring at e, or, if none does, the first cocircuit that does
abbrev pub IsPaintingOf : SignMap → (ℕ → laws.Colour) → ℕ → Painted → Type 0
IsPaintingOf m colour e (Circuit X) = IsFirst (IsFittingCircuit m colour e) X
IsPaintingOf m colour e (Cocircuit Y) = ((X : List Sign) → IsFittingCircuit m colour e X → ⊥)
    × IsFirst (IsFittingCocircuit m colour e) Y
