-- Classes of chirotopes of rank 3 up to relabelling and reorientation, and lists with a chirotope of each class.
--
-- Reference: Björner, Las Vergnas, Sturmfels, White and Ziegler, Oriented Matroids, chapters 3 and 7; Finschi and
-- Fukuda, Generation of oriented matroids, Discrete and Computational Geometry 27 (2002).
use Rattle.std.specs.Prelude.{ℕ, ◌≡◌, ◌≢◌, ◌<◌, ◌≤◌, List, [], ◌∷◌, length, All}
use Rattle.std.specs.List.{Contains}
use Rattle.om_signs.specs.declared.sign.Sign.TheVariants.{Zero}
use Rattle.om_subsets.specs.Subsets.{IsSubsetFrom, IsMember}
use Rattle.om_chirotope.specs.Map.{SignMap, chi_of}
use Rattle.om_chirotope.specs.Chirotope.{IsChirotope}
use Rattle.om_chirotope.specs.ThreeTerm.{IsBasis}
use Rattle.om_matroid.specs.Bases.{IsIndependent}
use Rattle.om_symmetry.specs.Permutations.{AreIsomorphic}

-- every two elements are together in some basis. With two elements and more there are no loops then, and no parallel
-- elements
abbrev pub IsSimple : SignMap → Type 0
IsSimple m = (e f : ℕ) → 1 ≤ e → e < f → f ≤ m.elements → IsIndependent m (e ∷ f ∷ [])

-- no sign is zero
abbrev pub IsUniform : SignMap → Type 0
IsUniform m = (xs : List ℕ) → IsSubsetFrom 1 m.elements xs → length xs ≡ m.rank → chi_of m xs ≢ Zero

-- a chirotope of rank 3 on n elements, every two of them together in some basis
pub record IsSimpleChirotope (n : ℕ) (m : SignMap) : Type 0 where
  pub axioms : IsChirotope m
  pub rank : m.rank ≡ 3
  pub elements : m.elements ≡ n
  pub simple : IsSimple m

-- a chirotope of rank 3 on n elements without a sign zero
pub record IsUniformChirotope (n : ℕ) (m : SignMap) : Type 0 where
  pub axioms : IsChirotope m
  pub rank : m.rank ≡ 3
  pub elements : m.elements ≡ n
  pub uniform : IsUniform m

-- a list of maps of a family, to one of which each map of the family is isomorphic
pub record IsComplete (P : SignMap → Type 0) (classes : List SignMap) : Type 0 where
  pub members : All P classes
  pub each : (m : SignMap) → P m → (c : SignMap) × Contains classes c × AreIsomorphic m c

-- some basis doesn't have the last element
abbrev pub HasBasisBeforeLast : SignMap → Type 0
HasBasisBeforeLast m = (b : List ℕ) × IsBasis m b × (IsMember m.elements b → ⊥)
