-- Statements whose denial is absurd.

-- it is absurd that the statement doesn't hold; for a decidable statement this says that it holds
abbrev pub IsPossible : Type 0 → Type 0
IsPossible P = (P → ⊥) → ⊥
