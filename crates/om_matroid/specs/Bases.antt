-- The matroid of a map: its bases, and what they determine about sets and elements. A set is given as a list of its
-- elements.
--
-- Reference: Björner, Las Vergnas, Sturmfels, White and Ziegler, Oriented Matroids, chapter 3.
use Rattle.std.specs.Prelude.{ℕ, ◌≡◌, ◌≤◌, List, [], ◌∷◌, length}
use Rattle.om_chirotope.specs.ThreeTerm.{IsBasis}
use Rattle.om_subsets.specs.Subsets.{IsSubsetFrom, IsMember, IsPartOf, with_element, without_element}
use Rattle.om_subsets.specs.Lists.{IsBefore}
use Rattle.om_chirotope.specs.Map.{SignMap}

-- contained in some basis
abbrev pub IsIndependent : SignMap → List ℕ → Type 0
IsIndependent m s = (b : List ℕ) × IsBasis m b × IsPartOf s b

-- an increasing list of some elements of a set that is contained in some basis
pub record IsIndependentPart (m : SignMap) (s t : List ℕ) : Type 0 where
  pub list : IsSubsetFrom 1 m.elements t
  pub part : IsPartOf t s
  pub independent : IsIndependent m t

-- the rank of a set is k: some independent part has k elements, and none has more
pub record IsRankOf (m : SignMap) (s : List ℕ) (k : ℕ) : Type 0 where
  pub reached : (t : List ℕ) × IsIndependentPart m s t × (length t ≡ k)
  pub greatest : (t : List ℕ) → IsIndependentPart m s t → length t ≤ k

-- in no basis
abbrev pub IsLoop : SignMap → ℕ → Type 0
IsLoop m e = (b : List ℕ) → IsBasis m b → IsMember e b → ⊥

-- in every basis
abbrev pub IsColoop : SignMap → ℕ → Type 0
IsColoop m e = (b : List ℕ) → IsBasis m b → IsMember e b

-- neither is a loop, and the set of both has rank 1
pub record AreParallel (m : SignMap) (e f : ℕ) : Type 0 where
  pub first : IsLoop m e → ⊥
  pub second : IsLoop m f → ⊥
  pub rank : IsRankOf m (e ∷ f ∷ []) 1

-- the lexicographically first basis
pub record IsFirstBasis (m : SignMap) (b : List ℕ) : Type 0 where
  pub basis : IsBasis m b
  pub first : (c : List ℕ) → IsBasis m c → IsBefore c b → ⊥

-- the lexicographically first basis that contains a set
pub record IsFirstBasisWith (m : SignMap) (s b : List ℕ) : Type 0 where
  pub basis : IsBasis m b
  pub contains : IsPartOf s b
  pub first : (c : List ℕ) → IsBasis m c → IsPartOf s c → IsBefore c b → ⊥

-- f is in c and not in b, and exchanging e for f in b gives a basis
pub record IsExchange (m : SignMap) (b c : List ℕ) (e f : ℕ) : Type 0 where
  pub inside : IsMember f c
  pub outside : IsMember f b → ⊥
  pub basis : IsBasis m (with_element f (without_element e b))

-- f is the least element that can be exchanged for e
pub record IsLeastExchange (m : SignMap) (b c : List ℕ) (e f : ℕ) : Type 0 where
  pub exchange : IsExchange m b c e f
  pub least : (g : ℕ) → IsExchange m b c e g → f ≤ g
