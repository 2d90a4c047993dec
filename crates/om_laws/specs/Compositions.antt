-- Compositions of several sign vectors.
--
-- Reference: Björner, Las Vergnas, Sturmfels, White and Ziegler, Oriented Matroids, chapters 3 and 4.
use Rattle.std.specs.Prelude.{ℕ, ◌≡◌, List, [], ◌∷◌}
use Rattle.om_laws.specs.Signs.{IsNonzero}
use Rattle.om_laws.specs.Vectors.{SignVector, zero_vector, composition, IsConformal}

-- the composition of a list of vectors, in the order of the list
abbrev pub composition_of : List SignVector → SignVector
composition_of [] = zero_vector
composition_of (Y ∷ Ys) = composition Y (composition_of Ys)

-- each vector of a list has the property
abbrev pub EachVector : (SignVector → Type 0) → List SignVector → Type 0
EachVector P [] = Unit {0}
EachVector P (Y ∷ Ys) = P Y × EachVector P Ys

-- the composition of some members of a set
abbrev pub IsComposition : (SignVector → Type 0) → SignVector → Type 0
IsComposition D X = (Ys : List SignVector) × EachVector D Ys × ((e : ℕ) → X e ≡ composition_of Ys e)

-- a member of the set that conforms to X
abbrev pub IsConforming : (SignVector → Type 0) → SignVector → SignVector → Type 0
IsConforming D X Y = D Y × IsConformal Y X

-- the composition of some members of a set that conform to it
abbrev pub IsConformalComposition : (SignVector → Type 0) → SignVector → Type 0
IsConformalComposition D X = IsComposition (IsConforming D X) X

-- at each element of the support some member that conforms to X has its sign
abbrev pub HasConformingParts : (SignVector → Type 0) → SignVector → Type 0
HasConformingParts D X = (e : ℕ) → IsNonzero (X e) → (Y : SignVector) × D Y × (Y e ≡ X e) × IsConformal Y X
