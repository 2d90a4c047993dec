-- Vectors and covectors of a chirotope.
--
-- Reference: Björner, Las Vergnas, Sturmfels, White and Ziegler, Oriented Matroids, chapters 3 and 4.
use Rattle.std.specs.Prelude.{ℕ, List}
use Rattle.om_signs.specs.declared.sign.Sign.{Sign}
use Rattle.om_laws.specs.Vectors.{SignVector, Orthogonal, IsSupportedOn, HasNonzero, HasSupportIn}
use Rattle.om_laws.specs.Circuits.{IsCircuit, IsCocircuit}

-- orthogonal to every vector of a set
abbrev pub IsOrthogonalToAll : (SignVector → Type 0) → SignVector → Type 0
IsOrthogonalToAll C X = (V : SignVector) → C V → Orthogonal X V

-- orthogonal to every vector of a set, and zero off the elements
pub record IsCovectorOf (E : List ℕ) (C : SignVector → Type 0) (X : SignVector) : Type 0 where
  pub orthogonal : IsOrthogonalToAll C X
  pub supported : IsSupportedOn E X

-- orthogonal to every circuit, and zero off the elements
abbrev pub IsCovector : List ℕ → (List ℕ → Sign) → SignVector → Type 0
IsCovector E chi = IsCovectorOf E (IsCircuit E chi)

-- orthogonal to every cocircuit, and zero off the elements
abbrev pub IsVector : List ℕ → (List ℕ → Sign) → SignVector → Type 0
IsVector E chi = IsCovectorOf E (IsCocircuit chi)

-- no nonzero member has a smaller support
abbrev pub HasLeastSupport : (SignVector → Type 0) → SignVector → Type 0
HasLeastSupport L X = (Z : SignVector) → L Z → HasNonzero Z → HasSupportIn Z X → HasSupportIn X Z

-- a nonzero member of minimal support
pub record IsMinimal (L : SignVector → Type 0) (X : SignVector) : Type 0 where
  pub member : L X
  pub nonzero : HasNonzero X
  pub least : HasLeastSupport L X
