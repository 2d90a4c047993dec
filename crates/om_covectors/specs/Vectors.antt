-- What the axioms of covectors require of one, two and three sign vectors. Elements count from 1.
--
-- Reference: Björner, Las Vergnas, Sturmfels, White and Ziegler, Oriented Matroids, chapter 4.
use Rattle.std.specs.Prelude.{ℕ, ◌≡◌, ◌-◌, List}
use Rattle.om_signs.specs.declared.sign.Sign.{Sign}
use Rattle.om_signs.specs.declared.sign.Sign.TheVariants.{Zero}
use Rattle.om_signs.specs.SignVec.{at_element, compose, IsSeparated}

-- e is in the separation of X and Y: the signs there are opposite, and neither is zero
abbrev pub IsSeparatedAt : List Sign → List Sign → ℕ → Type 0
IsSeparatedAt X Y e = IsSeparated X Y (e - 1)

-- Z eliminates e from the composition of X and Y: it is zero at e, and equals the composition outside the
-- separation
pub record EliminatesFromComposition (X Y : List Sign) (e : ℕ) (Z : List Sign) : Type 0 where
  pub zero : at_element Z e ≡ Zero
  pub outside : (f : ℕ) → (IsSeparatedAt X Y f → ⊥) → at_element Z f ≡ at_element (compose X Y) f
