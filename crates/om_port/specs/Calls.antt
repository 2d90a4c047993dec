use Rattle.std.specs.Prelude.{ℕ, ◌<◌, ◌^◌, List, Contains}

-- the call of this number, counted from 1, is in the list; calls after number 4,294,967,295 are in no list
abbrev pub IsListed : List ℕ → ℕ → Type 0
IsListed failing number = (number < 2 ^ 32) × Contains failing number
