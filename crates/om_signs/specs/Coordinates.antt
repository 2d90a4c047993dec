-- Whole numbers within the limit of coordinates.
use Rattle.std.specs.Prelude.{◌≤◌, ℤ, unsigned_abs}
use Rattle.om_signs.specs.declared.limits.TheConstants.{MAX_COORDINATE}

-- an integer that a vector may have as a coordinate
abbrev pub IsCoordinate : ℤ → Type 0
IsCoordinate x = unsigned_abs x ≤ unsigned_abs MAX_COORDINATE
