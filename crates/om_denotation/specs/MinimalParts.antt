-- Members of minimal support of finite lists of sign vectors.
--
-- Reference: Björner, Las Vergnas, Sturmfels, White and Ziegler, Oriented Matroids, chapters 3 and 4.
use Rattle.std.specs.Prelude.{ℕ, ◌≡◌, List}
use Rattle.std.specs.List.{Contains}
use Rattle.om_signs.specs.declared.sign.Sign.{Sign}
use Rattle.om_signs.specs.SignVec.{at, IsConformal}
use Rattle.om_covectors.specs.Minimality.{IsMinimal}

-- some member of minimal support conforms to X and has its sign at a place, counted from 0
abbrev pub HasMinimalPart : List (List Sign) → List Sign → ℕ → Type 0
HasMinimalPart members X i = (Y : List Sign) × Contains members Y × IsMinimal members Y × IsConformal Y X
    × (at Y i ≡ at X i)
