-- Circuits and cocircuits of a chirotope.
--
-- Reference: Björner, Las Vergnas, Sturmfels, White and Ziegler, Oriented Matroids, chapter 3.
use Rattle.std.specs.Prelude.{ℕ, List}
use Rattle.om_signs.specs.declared.sign.Sign.{Sign}
use Rattle.om_laws.specs.Members.{IsDistinct, AreAmong}
use Rattle.om_laws.specs.Vectors.{SignVector, HasNonzero, AreEqualUpToSign}
use Rattle.om_laws.specs.Relations.{around, along}

-- a nonzero vector that is, up to sign, the vector around a tuple without repeats
pub record IsCircuit (E : List ℕ) (chi : List ℕ → Sign) (X : SignVector) : Type 0 where
  pub tuple : List ℕ
  pub distinct : IsDistinct tuple
  pub within : AreAmong E tuple
  pub nonzero : HasNonzero X
  pub same : AreEqualUpToSign X (around chi tuple)

-- a nonzero vector that is, up to sign, the vector along a tuple
pub record IsCocircuit (chi : List ℕ → Sign) (X : SignVector) : Type 0 where
  pub tuple : List ℕ
  pub nonzero : HasNonzero X
  pub same : AreEqualUpToSign X (along chi tuple)
