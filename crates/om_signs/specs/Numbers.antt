-- Increasing lists of numbers, and the numbers without one of them.
use Rattle.std.specs.Prelude.{ℕ, ◌+◌, ◌<◌, List, [], ◌∷◌, cond, nat_lt}

-- each number is below the next
abbrev pub IsIncreasing : List ℕ → Type 0
IsIncreasing [] = Unit {0}
IsIncreasing (x ∷ []) = Unit {0}
IsIncreasing (x ∷ y ∷ ys) = (x < y) × IsIncreasing (y ∷ ys)

-- the numbers other than e, in order
abbrev pub skip : ℕ → ℕ → ℕ
skip e p = cond (nat_lt p e) p (p + 1)
