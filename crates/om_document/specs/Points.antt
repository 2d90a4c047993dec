-- Points: three integers per line.
--
-- Trusted: these definitions say what a document is.
use Rattle.std.specs.Prelude.{ℕ, ℤ, List, [], ◌∷◌, Option, Some, None, unwrap_or, unsigned_abs}
use Rattle.om_signs.specs.declared.limits.TheConstants.{MAX_COORDINATE}
use Rattle.om_lines.specs.Words.{signed}

-- the coordinate that a word spells
abbrev pub coordinate : List ℕ → Option ℤ
coordinate w = signed (unsigned_abs MAX_COORDINATE) w

-- three numbers, if all are there
abbrev pub with_three : Option ℤ → Option ℤ → Option ℤ → Option (List ℤ)
with_three (Some x) (Some y) (Some z) = Some (x ∷ y ∷ z ∷ [])
with_three _ _ _ = None

-- the point that the words of a line spell: exactly three coordinates
abbrev pub point_of : List (List ℕ) → Option (List ℤ)
point_of (x ∷ y ∷ z ∷ []) = with_three (coordinate x) (coordinate y) (coordinate z)
point_of _ = None

-- the point of a line that spells one
abbrev pub point_on : List (List ℕ) → List ℤ
point_on w = unwrap_or (point_of w) []
