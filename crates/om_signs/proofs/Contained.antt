-- What a list contains, by its first value and the others.
--
-- Main results: the empty list contains nothing (none_contained), a list its first value (contains_first), what stands
-- at a place (contains_at) and what its rest contains (contains_later), and nothing else (first_or_later).
use Rattle.std.specs.List.{Contains, slice_get}
use Rattle.std.proofs.Common.{ℕ, zero, suc, Some, ◌≡◌, ◌⊎◌, List, [], ◌∷◌, refl, inl, inr, arith}
use Rattle.std.proofs.lemmas.Option.{slice_get_within, get_or_from_slice_get}

-- the empty list contains nothing
pub none_contained : {A : Type 0} (x : A) → Contains [] x → ⊥
none_contained x (k, l, e) = absurd (omega arith)

-- a list contains its first value
pub contains_first : {A : Type 0} (x : A) (xs : List A) → Contains (x ∷ xs) x
contains_first x xs = (0, omega arith, refl)

-- what stands at a place
pub contains_at : {A : Type 0} (xs : List A) (k : ℕ) (x : A) → slice_get xs k ≡ Some x → Contains xs x
contains_at xs k x e = (k, slice_get_within xs k x e, get_or_from_slice_get xs k x x e)

-- what the rest of a list contains, the list contains
pub contains_later : {A : Type 0} (x : A) (xs : List A) (y : A) → Contains xs y → Contains (x ∷ xs) y
contains_later x xs y (k, l, e) = (suc k, omega arith, e)

-- a value that a list contains is the first one, or the rest contains it
pub first_or_later : {A : Type 0} (x : A) (xs : List A) (y : A) → Contains (x ∷ xs) y → (x ≡ y) ⊎ Contains xs y
first_or_later x xs y (zero, l, e) = inl e
first_or_later x xs y (suc k, l, e) = inr (k, omega arith, e)
