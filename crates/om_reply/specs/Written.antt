-- Texts of which only a part was written.
use Rattle.std.specs.Prelude.{ℕ, ◌<◌, List, Option, length, take}
use Rattle.std.specs.Io.KnownBytes.{Appends}

-- the first bytes of a text were written, but not all of them
abbrev pub IsFront : Option (List ℕ) → Option (List ℕ) → List ℕ → Type 0
IsFront old new text = (k : ℕ) × ((k < length text) × Appends old new (take k text))
