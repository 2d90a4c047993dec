-- Finite families of sign vectors, as lists.
--
-- Reference: Björner, Las Vergnas, Sturmfels, White and Ziegler, Oriented Matroids, chapters 3 and 4.
use Rattle.std.specs.Prelude.{ℕ, ◌≡◌, ◌⊎◌, List, [], ◌∷◌}
use Rattle.om_laws.specs.Vectors.{SignVector, IsSupportedOn}

-- equal, element by element, to a vector of the list
abbrev pub IsListed : List SignVector → SignVector → Type 0
IsListed [] X = ⊥
IsListed (Y ∷ Ys) X = ((e : ℕ) → X e ≡ Y e) ⊎ IsListed Ys X

-- all vectors of the list are zero off the elements
abbrev pub AreSupportedOn : List ℕ → List SignVector → Type 0
AreSupportedOn E Ls = (X : SignVector) → IsListed Ls X → IsSupportedOn E X
