-- The vectors of an oriented matroid, defined by its covectors.
--
-- Reference: Björner, Las Vergnas, Sturmfels, White and Ziegler, Oriented Matroids, chapter 3.
use Rattle.std.specs.Prelude.{ℕ, ◌≡◌, List, length}
use Rattle.om_signs.specs.declared.sign.Sign.{Sign}
use Rattle.om_signs.specs.SignVec.{IsOrthogonal}

-- n signs, and orthogonal to every covector
abbrev pub IsVectorOf : ℕ → (List Sign → Type 0) → List Sign → Type 0
IsVectorOf n P X = (length X ≡ n) × ((Y : List Sign) → length Y ≡ n → P Y → IsOrthogonal X Y)
