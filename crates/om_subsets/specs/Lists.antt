-- Increasing lists and the lexicographic order in plain words. The laws of the crate say that the recursive
-- definitions mean the same.
use Rattle.std.specs.Prelude.{ℕ, ◌≡◌, ◌<◌, ◌≤◌, List, [], ◌∷◌, ◌⊎◌}
use Rattle.om_subsets.specs.Subsets.{IsMember}
pub use Rattle.om_signs.specs.Numbers.{IsIncreasing}

-- each number is from low to high
abbrev pub IsWithin : ℕ → ℕ → List ℕ → Type 0
IsWithin low high xs = (e : ℕ) → IsMember e xs → (low ≤ e) × (e ≤ high)

-- the first list comes before the second one lexicographically
abbrev pub IsBefore : List ℕ → List ℕ → Type 0
IsBefore [] [] = ⊥
IsBefore [] (y ∷ ys) = Unit {0}
IsBefore (x ∷ xs) [] = ⊥
IsBefore (x ∷ xs) (y ∷ ys) = (x < y) ⊎ ((x ≡ y) × IsBefore xs ys)
