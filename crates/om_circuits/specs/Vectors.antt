-- What the axioms of circuits require of one, two and three sign vectors. Elements count from 1.
--
-- Reference: Björner, Las Vergnas, Sturmfels, White and Ziegler, Oriented Matroids, chapter 3.
use Rattle.std.specs.Prelude.{ℕ, ◌≡◌, ◌⊎◌, List}
use Rattle.om_signs.specs.declared.sign.Sign.{Sign}
use Rattle.om_signs.specs.declared.sign.Sign.TheVariants.{Minus, Zero, Plus}
use Rattle.om_signs.specs.SignVec.{at_element}

-- X is plus and Y is minus at e
pub record IsOpposedAt (X Y : List Sign) (e : ℕ) : Type 0 where
  pub plus : at_element X e ≡ Plus
  pub minus : at_element Y e ≡ Minus

-- Z eliminates e from X and Y: it is zero at e, plus only where one of them is, and minus only where one of them is
pub record Eliminates (X Y : List Sign) (e : ℕ) (Z : List Sign) : Type 0 where
  pub zero : at_element Z e ≡ Zero
  pub plus : (f : ℕ) → at_element Z f ≡ Plus → (at_element X f ≡ Plus) ⊎ (at_element Y f ≡ Plus)
  pub minus : (f : ℕ) → at_element Z f ≡ Minus → (at_element X f ≡ Minus) ⊎ (at_element Y f ≡ Minus)
