-- Compositions of the members of a family of sign vectors, and members of minimal support. Places count from 0.
--
-- Reference: Björner, Las Vergnas, Sturmfels, White and Ziegler, Oriented Matroids, chapters 3 and 4.
use Rattle.std.specs.Prelude.{ℕ, ◌≡◌, List, replicate}
use Rattle.om_signs.specs.declared.sign.Sign.{Sign}
use Rattle.om_signs.specs.declared.sign.Sign.TheVariants.{Zero}
use Rattle.om_signs.specs.SignVec.{at, compose, IsInSupport, IsConformal, IsOrthogonal}
use Rattle.om_members.specs.Vectors.{HasSupportIn}
use Rattle.om_denotation.specs.Circuits.{HasNonzero}

-- the composition of some members, each with n signs. That of no members is zero, and a member may be composed in
-- front of a composition
pub data IsCompositionOf (n : ℕ) (P : List Sign → Type 0) : List Sign → Type 0 where
  none : IsCompositionOf n P (replicate n Zero)
  front : (Y X : List Sign) → P Y → IsCompositionOf n P X → IsCompositionOf n P (compose Y X)

-- a member of the family that conforms to X
abbrev pub IsConforming : (List Sign → Type 0) → List Sign → List Sign → Type 0
IsConforming P X Y = P Y × IsConformal Y X

-- at each place of the support some member conforms to X and has its sign
abbrev pub HasConformingParts : (List Sign → Type 0) → List Sign → Type 0
HasConformingParts P X = (i : ℕ) → IsInSupport X i → (Y : List Sign) × P Y × IsConformal Y X × (at Y i ≡ at X i)

-- orthogonal to each member
abbrev pub IsOrthogonalToEach : (List Sign → Type 0) → List Sign → Type 0
IsOrthogonalToEach P X = (Y : List Sign) → P Y → IsOrthogonal X Y

-- a nonzero member of minimal support: if the support of a nonzero member lies in its support, the supports are equal
pub record IsOfLeastSupport (P : List Sign → Type 0) (X : List Sign) : Type 0 where
  pub member : P X
  pub nonzero : HasNonzero X
  pub least : (Y : List Sign) → P Y → HasNonzero Y → HasSupportIn Y X → HasSupportIn X Y
