-- What increasing tuples determine about circuits, cocircuits and covectors: tuples of the elements of a list, and,
-- in a rank, tuples of the elements 1 to n.
--
-- Reference: Björner, Las Vergnas, Sturmfels, White and Ziegler, Oriented Matroids, chapters 3 and 4.
use Rattle.std.specs.Prelude.{ℕ, suc, ◌-◌, List}
use Rattle.om_signs.specs.declared.sign.Sign.{Sign}
use Rattle.om_laws.specs.Members.{AreAmong}
use Rattle.om_laws.specs.Vectors.{SignVector, Orthogonal, HasNonzero, AreEqualUpToSign}
use Rattle.om_laws.specs.Sorting.{IsIncreasing, IsTuple, on_tuples}
use Rattle.om_laws.specs.Relations.{around, along}

-- a nonzero vector that is, up to sign, the vector around an increasing tuple of elements
pub record IsAroundIncreasing (E : List ℕ) (chi : List ℕ → Sign) (X : SignVector) : Type 0 where
  pub tuple : List ℕ
  pub increasing : IsIncreasing tuple
  pub within : AreAmong E tuple
  pub nonzero : HasNonzero X
  pub same : AreEqualUpToSign X (around chi tuple)

-- a nonzero vector that is, up to sign, the vector along an increasing tuple
pub record IsAlongIncreasing (chi : List ℕ → Sign) (X : SignVector) : Type 0 where
  pub tuple : List ℕ
  pub increasing : IsIncreasing tuple
  pub nonzero : HasNonzero X
  pub same : AreEqualUpToSign X (along chi tuple)

-- orthogonal to the vector around every increasing tuple of elements
abbrev pub IsOrthogonalToTuples : List ℕ → (List ℕ → Sign) → SignVector → Type 0
IsOrthogonalToTuples E chi X = (s : List ℕ) → IsIncreasing s → AreAmong E s → Orthogonal (around chi s) X

-- in rank r, a nonzero vector that is, up to sign, the vector around an increasing tuple of r + 1 of the elements 1
-- to n
pub record IsAroundTuple (n r : ℕ) (f : List ℕ → Sign) (X : SignVector) : Type 0 where
  pub tuple : List ℕ
  pub increasing : IsIncreasing tuple
  pub sized : IsTuple n (suc r) tuple
  pub nonzero : HasNonzero X
  pub same : AreEqualUpToSign X (around (on_tuples n r f) tuple)

-- in rank r, a nonzero vector that is, up to sign, the vector along an increasing tuple of r - 1 of the elements 1
-- to n
pub record IsAlongTuple (n r : ℕ) (f : List ℕ → Sign) (X : SignVector) : Type 0 where
  pub tuple : List ℕ
  pub increasing : IsIncreasing tuple
  pub sized : IsTuple n (r - 1) tuple
  pub nonzero : HasNonzero X
  pub same : AreEqualUpToSign X (along (on_tuples n r f) tuple)

-- in rank r, orthogonal to the vector around every increasing tuple of r + 1 of the elements 1 to n
abbrev pub IsOrthogonalInRank : ℕ → ℕ → (List ℕ → Sign) → SignVector → Type 0
IsOrthogonalInRank n r f X = (s : List ℕ) → IsTuple n (suc r) s → IsIncreasing s
    → Orthogonal (around (on_tuples n r f) s) X
