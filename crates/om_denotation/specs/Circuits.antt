-- Which lists of signs are circuits and cocircuits of a chirotope.
--
-- Reference: Björner, Las Vergnas, Sturmfels, White and Ziegler, Oriented Matroids, chapter 3.
use Rattle.std.specs.Prelude.{ℕ, ◌≡◌, ◌+◌, ◌⊎◌, List, length, map}
use Rattle.om_signs.specs.declared.sign.Sign.{Sign}
use Rattle.om_signs.specs.Sign.{opposite}
use Rattle.om_signs.specs.SignVec.{IsInSupport}
use Rattle.om_subsets.specs.Subsets.{IsSubsetFrom}
use Rattle.om_chirotope.specs.Map.{SignMap, circuit_vector, cocircuit_vector}

-- some sign isn't zero
abbrev pub HasNonzero : List Sign → Type 0
HasNonzero X = (i : ℕ) × IsInSupport X i

-- the first vector is the second or its negative
abbrev pub IsUpToSign : List Sign → List Sign → Type 0
IsUpToSign X Y = (X ≡ Y) ⊎ (X ≡ map opposite Y)

-- a vector that isn't zero, and is, up to sign, the vector V of an increasing list of one element more than the
-- rank
pub record IsCircuitOfChirotope (m : SignMap) (X : List Sign) : Type 0 where
  pub tuple : List ℕ
  pub increasing : IsSubsetFrom 1 m.elements tuple
  pub size : length tuple ≡ m.rank + 1
  pub nonzero : HasNonzero X
  pub same : IsUpToSign X (circuit_vector m tuple)

-- a vector that isn't zero, and is, up to sign, the vector U of an increasing list of one element less than the
-- rank
pub record IsCocircuitOfChirotope (m : SignMap) (X : List Sign) : Type 0 where
  pub tuple : List ℕ
  pub increasing : IsSubsetFrom 1 m.elements tuple
  pub size : length tuple + 1 ≡ m.rank
  pub nonzero : HasNonzero X
  pub same : IsUpToSign X (cocircuit_vector m tuple)
