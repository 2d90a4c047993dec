-- Vectors of three integers of any size, the triple product of three of them, and the sign of an integer.
--
-- Reference: Björner, Las Vergnas, Sturmfels, White and Ziegler, Oriented Matroids, chapter 1.
use Rattle.std.specs.Prelude.{zero, suc, ℤ, pos, negsuc, ◌+ℤ◌, ◌-ℤ◌, ◌*ℤ◌}
use Rattle.om_signs.specs.declared.sign.Sign.{Sign}
use Rattle.om_signs.specs.declared.sign.Sign.TheVariants.{Minus, Zero, Plus}
use Rattle.om_signs.specs.Coordinates.{IsCoordinate}

-- three integers
pub record WholeVector : Type 0 where
  pub x : ℤ
  pub y : ℤ
  pub z : ℤ

-- the vector with these coordinates
abbrev pub vector_of : ℤ → ℤ → ℤ → WholeVector
vector_of x y z = record { x = x; y = y; z = z }

-- the vector of three zeros
abbrev pub zero_vector : WholeVector
zero_vector = vector_of (pos 0) (pos 0) (pos 0)

-- the determinant of three vectors, as a sum of six products
abbrev pub triple_product : WholeVector → WholeVector → WholeVector → ℤ
triple_product a b c = a.x *ℤ b.y *ℤ c.z -ℤ a.x *ℤ b.z *ℤ c.y +ℤ a.y *ℤ b.z *ℤ c.x -ℤ a.y *ℤ b.x *ℤ c.z +ℤ a.z *ℤ b.x
    *ℤ c.y -ℤ a.z *ℤ b.y *ℤ c.x

-- the sign of an integer
abbrev pub sign_of : ℤ → Sign
sign_of (pos zero) = Zero
sign_of (pos (suc n)) = Plus
sign_of (negsuc n) = Minus

-- a vector of the code: its coordinates are within the limit
pub record IsWithinLimit (v : WholeVector) : Type 0 where
  pub x : IsCoordinate v.x
  pub y : IsCoordinate v.y
  pub z : IsCoordinate v.z
