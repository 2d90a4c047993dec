-- Positions in a list of members, from 1, and the order of lists of positions.
use Rattle.std.specs.Prelude.{ℕ, ◌≡◌, ◌-◌, ◌<◌, ◌≤◌, ◌⊎◌, List, [], ◌∷◌, length, slice_index_or}
use Rattle.om_signs.specs.declared.sign.Sign.{Sign}

-- a position of the list, counted from 1
abbrev pub IsPosition : List (List Sign) → ℕ → Type 0
IsPosition members i = (1 ≤ i) × (i ≤ length members)

-- the member at a position
abbrev pub member_at : List (List Sign) → ℕ → List Sign
member_at members i = slice_index_or members (i - 1) []

-- the lists differ, and the first number in which they differ is smaller in the first list
abbrev pub IsBefore : List ℕ → List ℕ → Type 0
IsBefore (x ∷ xs) (y ∷ ys) = (x < y) ⊎ ((x ≡ y) × IsBefore xs ys)
IsBefore _ _ = ⊥
