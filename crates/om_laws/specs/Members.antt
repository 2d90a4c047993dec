-- Members of lists of elements.
use Rattle.std.specs.Prelude.{ℕ, ◌≡◌, ◌⊎◌, List, [], ◌∷◌}

abbrev pub IsMember : ℕ → List ℕ → Type 0
IsMember e [] = ⊥
IsMember e (x ∷ xs) = (e ≡ x) ⊎ IsMember e xs

-- no element occurs twice
abbrev pub IsDistinct : List ℕ → Type 0
IsDistinct [] = Unit {0}
IsDistinct (x ∷ xs) = (IsMember x xs → ⊥) × IsDistinct xs

-- each member of the second list is a member of the first
abbrev pub AreAmong : List ℕ → List ℕ → Type 0
AreAmong E t = (e : ℕ) → IsMember e t → IsMember e E
