-- The covectors of the dual, of a deletion, of a contraction and of a reorientation of an oriented matroid on n
-- elements. P are its covectors, and Q those of the result.
--
-- Reference: Björner, Las Vergnas, Sturmfels, White and Ziegler, Oriented Matroids, chapters 3 and 4.
use Rattle.std.specs.Prelude.{ℕ, ◌≡◌, ◌+◌, ◌-◌, ◌↔◌, List, length}
use Rattle.std.specs.List.{remove}
use Rattle.om_signs.specs.declared.sign.Sign.{Sign}
use Rattle.om_signs.specs.declared.sign.Sign.TheVariants.{Zero}
use Rattle.om_signs.specs.SignVec.{at_element, flip, IsOrthogonal}

-- the dual: the sign vectors that are orthogonal to every covector
abbrev pub IsDual : ℕ → (List Sign → Type 0) → (List Sign → Type 0) → Type 0
IsDual n P Q = (Y : List Sign) → length Y ≡ n → Q Y ↔ ((X : List Sign) → length X ≡ n → P X → IsOrthogonal Y X)

-- X is some covector with the place of e dropped
abbrev pub IsWithout : ℕ → ℕ → (List Sign → Type 0) → List Sign → Type 0
IsWithout n e P X = (W : List Sign) × (length W ≡ n) × P W × (remove W (e - 1) ≡ X)

-- X is some covector that is zero at e, with the place of e dropped
abbrev pub IsZeroWithout : ℕ → ℕ → (List Sign → Type 0) → List Sign → Type 0
IsZeroWithout n e P X = (W : List Sign) × (length W ≡ n) × P W × (at_element W e ≡ Zero) × (remove W (e - 1) ≡ X)

-- the deletion of e: the covectors with the place of e dropped
abbrev pub IsDeletion : ℕ → ℕ → (List Sign → Type 0) → (List Sign → Type 0) → Type 0
IsDeletion n e P Q = (X : List Sign) → length X + 1 ≡ n → Q X ↔ IsWithout n e P X

-- the contraction of e: the covectors that are zero at e, with the place of e dropped
abbrev pub IsContraction : ℕ → ℕ → (List Sign → Type 0) → (List Sign → Type 0) → Type 0
IsContraction n e P Q = (X : List Sign) → length X + 1 ≡ n → Q X ↔ IsZeroWithout n e P X

-- the reorientation of the elements of a mask: the covectors with their signs at these elements negated
abbrev pub IsReorientation : ℕ → ℕ → (List Sign → Type 0) → (List Sign → Type 0) → Type 0
IsReorientation n mask P Q = (X : List Sign) → length X ≡ n → Q X ↔ P (flip mask X)
