-- The axioms of a chirotope, and the first pair of lists that breaks them.
--
-- Reference: Björner, Las Vergnas, Sturmfels, White and Ziegler, Oriented Matroids, chapter 3.
use Rattle.std.specs.Prelude.{ℕ, ◌≡◌, ◌≢◌, ◌+◌, ◌≤◌, List, length, All}
use Rattle.om_signs.specs.declared.sign.Sign.{Sign}
use Rattle.om_signs.specs.declared.sign.Sign.TheVariants.{Zero}
use Rattle.om_signs.specs.declared.limits.TheConstants.{MAX_ELEMENTS}
use Rattle.om_signs.specs.SignVec.{IsOrthogonal}
use Rattle.om_subsets.specs.Subsets.{IsSubsetFrom}
use Rattle.om_subsets.specs.Lists.{IsBefore}
use Rattle.om_subsets.specs.Members.{Chosen}
use Rattle.om_chirotope.specs.Map.{SignMap, IsMap, value_of, circuit_vector, cocircuit_vector}

-- an increasing list S of one element more than the rank, and an increasing list A of one element less
pub record IsPair (m : SignMap) (s a : List ℕ) : Type 0 where
  pub s_list : IsSubsetFrom 1 m.elements s
  pub s_size : length s ≡ m.rank + 1
  pub a_list : IsSubsetFrom 1 m.elements a
  pub a_size : length a + 1 ≡ m.rank

-- the vector V of S is orthogonal to the vector U of A
abbrev pub IsOrthogonalPair : SignMap → List ℕ → List ℕ → Type 0
IsOrthogonalPair m s a = IsOrthogonal (circuit_vector m s) (cocircuit_vector m a)

-- every pair is orthogonal; in rank 0 there is no A, and if the rank is the number of elements there is no S
abbrev pub HasOrthogonalPairs : SignMap → Type 0
HasOrthogonalPairs m = (s a : List ℕ) → IsPair m s a → IsOrthogonalPair m s a

-- some value isn't zero
abbrev pub HasNonzeroValue : SignMap → Type 0
HasNonzeroValue m = (xs : List ℕ) × IsSubsetFrom 1 m.elements xs × (length xs ≡ m.rank) × (value_of m xs ≢ Zero)

-- a map that satisfies the axioms of a chirotope
pub record IsChirotope (m : SignMap) : Type 0 where
  pub whole : IsMap m
  pub nonzero : HasNonzeroValue m
  pub orthogonal : HasOrthogonalPairs m

-- a number of elements within the limits
pub record IsWithinLimits (m : SignMap) : Type 0 where
  pub low : 1 ≤ m.elements
  pub high : m.elements ≤ MAX_ELEMENTS

-- what holds of every chirotope of the code
pub record IsChirotopeWithinLimits (m : SignMap) : Type 0 where
  pub axioms : IsChirotope m
  pub limits : IsWithinLimits m

-- every sign is zero
abbrev pub IsAllZero : List Sign → Type 0
IsAllZero signs = All (λ s. s ≡ Zero) signs

-- S and A are the first pair that isn't orthogonal, by S and then by A in lexicographic order
pub record IsFirstViolated (m : SignMap) (s a : Chosen) : Type 0 where
  pub s_n : s.n ≡ m.elements
  pub a_n : a.n ≡ m.elements
  pub pair : IsPair m s.elements a.elements
  pub violated : IsOrthogonalPair m s.elements a.elements → ⊥
  pub earlier_s : (t b : List ℕ) → IsPair m t b → IsBefore t s.elements → IsOrthogonalPair m t b
  pub earlier_a : (b : List ℕ) → IsPair m s.elements b → IsBefore b a.elements → IsOrthogonalPair m s.elements b
