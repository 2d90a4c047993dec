-- Chains of lists of chirotopes of rank 3, one on each number of elements, and what is shown of each list.
--
-- Reference: Björner, Las Vergnas, Sturmfels, White and Ziegler, Oriented Matroids, chapters 3 and 7; Finschi and
-- Fukuda, Generation of oriented matroids, Discrete and Computational Geometry 27 (2002).
use Rattle.std.specs.Prelude.{ℕ, ◌≡◌, ◌+◌, ◌-◌, ◌<◌, ◌≤◌, List, [], ◌∷◌, ◌++◌, ◌⊎◌, length, All}
use Rattle.om_signs.specs.declared.sign.Sign.TheVariants.{Minus, Zero}
use Rattle.om_signs.specs.declared.limits.TheConstants.{MAX_ELEMENTS}
use Rattle.om_subsets.specs.Subsets.{IsSubsetFrom}
use Rattle.om_subsets.specs.Members.{Chosen}
use Rattle.om_subsets.specs.Lists.{IsBefore as IsEarlier}
use Rattle.om_chirotope.specs.Map.{SignMap, chi_of}
use Rattle.om_matroid.specs.Bases.{IsIndependent}
use Rattle.om_covers.specs.Classes.{IsComplete}
use Rattle.om_least.specs.Least.{IsBefore, IsLeast, IsIncreasing, map_at}
use Rattle.om_levels.specs.declared.family.Family.{Family}
use Rattle.om_levels.specs.declared.family.Family.TheVariants.{Simple, Uniform}
use Rattle.om_levels.specs.declared.verdict.Verdict.TheVariants.{Missing as Lost, Unmet as Unreached, TooMany as Many}
use Rattle.om_levels.specs.Families.{IsOfFamily}
use Rattle.om_levels.specs.Levels.{Members}
use Rattle.om_levels.specs.Steps.{IsVerdict}
use Rattle.om_chain.specs.declared.asked.Asked.{Asked}
use Rattle.om_chain.specs.declared.asked.Asked.TheVariants.{Complete, Exact}
use Rattle.om_chain.specs.declared.unfit.Unfit.{Unfit}
use Rattle.om_chain.specs.declared.unfit.Unfit.TheVariants.{Dependent, Zero as ZeroAt, Order, NotLeast}
use Rattle.om_chain.specs.declared.gap.Gap.{Gap}
use Rattle.om_chain.specs.declared.gap.Gap.TheVariants.{Missing, Unmet, TooMany}

-- ---- what is asked of a list

-- a list that is complete for a family, of least maps, each before the next
pub record IsExact (family : Family) (n : ℕ) (classes : List SignMap) : Type 0 where
  pub complete : IsComplete (IsOfFamily family n) classes
  pub least : All IsLeast classes
  pub increasing : IsIncreasing classes

-- what is shown of a list on n elements, by what is asked
abbrev pub IsShown : Asked → Family → ℕ → List SignMap → Type 0
IsShown Complete family n classes = IsComplete (IsOfFamily family n) classes
IsShown Exact family n classes = IsExact family n classes

-- ---- what is asked of a member

-- a map of the family on n elements that is least, if exactness is asked
pub record IsAdmitted (asked : Asked) (family : Family) (n : ℕ) (m : SignMap) : Type 0 where
  pub member : IsOfFamily family n m
  pub least : asked ≡ Exact → IsLeast m

-- the last map of the list, if there is one, comes before m
abbrev pub IsBehind : List SignMap → SignMap → Type 0
IsBehind maps m = 1 ≤ length maps → IsBefore (map_at maps (length maps - 1)) m

-- ---- the chain

-- what is asked, the family, the last list that is shown, and the list on one element more that is being read
pub record ChainOfLists : Type 0 where
  pub asked : Asked
  pub family : Family
  pub shown : Members
  pub current : Members

-- the last list is on three elements or more and is shown, and the next one has admitted members; they are in order if
-- exactness is asked
pub record IsChain (c : ChainOfLists) : Type 0 where
  pub shown : IsShown c.asked c.family c.shown.elements c.shown.maps
  pub low : 3 ≤ c.shown.elements
  pub next : c.current.elements ≡ c.shown.elements + 1
  pub high : c.current.elements ≤ MAX_ELEMENTS
  pub admitted : All (IsAdmitted c.asked c.family c.current.elements) c.current.maps
  pub increasing : c.asked ≡ Exact → IsIncreasing c.current.maps

-- the map of rank 3 on three elements with the sign minus, which is the least one
abbrev pub least_triangle : SignMap
least_triangle = record { rank = 3; elements = 3; signs = Minus ∷ [] }

-- the list on three elements
abbrev pub first_list : Members
first_list = record { elements = 3; maps = least_triangle ∷ [] }

-- nothing is read yet: the list on three elements is shown, and the one on four is empty
abbrev pub begun : Asked → Family → ChainOfLists
begun asked family = record {
  asked = asked;
  family = family;
  shown = first_list;
  current = record { elements = 4; maps = [] };
}

-- ---- one member more

-- the chain with one map more behind the list that is being read
abbrev pub added : ChainOfLists → SignMap → ChainOfLists
added c m = record {
  asked = c.asked;
  family = c.family;
  shown = c.shown;
  current = record { elements = c.current.elements; maps = c.current.maps ++ m ∷ [] };
}

-- m can be the next member of the list that is being read
pub record IsFit (c : ChainOfLists) (m : SignMap) : Type 0 where
  pub admitted : IsAdmitted c.asked c.family c.current.elements m
  pub behind : c.asked ≡ Exact → IsBehind c.current.maps m

-- g and h are two elements, and the pair comes before that of e and f
pub record IsEarlierPair (n e f g h : ℕ) : Type 0 where
  pub low : 1 ≤ g
  pub apart : g < h
  pub high : h ≤ n
  pub earlier : (g < e) ⊎ ((g ≡ e) × (h < f))

-- e and f are the first two elements that are in no common basis
pub record AreFirstDependent (m : SignMap) (e f : ℕ) : Type 0 where
  pub low : 1 ≤ e
  pub apart : e < f
  pub high : f ≤ m.elements
  pub dependent : IsIndependent m (e ∷ f ∷ []) → ⊥
  pub first : (g h : ℕ) → IsEarlierPair m.elements e f g h → IsIndependent m (g ∷ h ∷ [])

-- the first set of as many elements as the rank with the sign zero
pub record IsFirstZero (m : SignMap) (set : Chosen) : Type 0 where
  pub n : set.n ≡ m.elements
  pub size : length set.elements ≡ m.rank
  pub zero : chi_of m set.elements ≡ Zero
  pub first : (xs : List ℕ) → IsSubsetFrom 1 m.elements xs → length xs ≡ m.rank → IsEarlier xs set.elements
      → chi_of m xs ≡ Zero → ⊥

-- why m can't be the next member. It is of the family where the order is in question, and in order where it isn't
-- least.
abbrev pub IsUnfit : ChainOfLists → SignMap → Unfit → Type 0
IsUnfit c m (Dependent e f) = (c.family ≡ Simple) × AreFirstDependent m e f
IsUnfit c m (ZeroAt set) = (c.family ≡ Uniform) × IsFirstZero m set
IsUnfit c m Order = (c.asked ≡ Exact) × IsOfFamily c.family c.current.elements m × (IsBehind c.current.maps m → ⊥)
IsUnfit c m NotLeast = (c.asked ≡ Exact) × IsOfFamily c.family c.current.elements m × IsBehind c.current.maps m
    × (IsLeast m → ⊥)

-- ---- the step

-- the list that was being read is shown, and the next one is empty
pub record IsClosed (old new : ChainOfLists) : Type 0 where
  pub asked : new.asked ≡ old.asked
  pub family : new.family ≡ old.family
  pub shown : new.shown ≡ old.current
  pub proved : IsShown old.asked old.family old.current.elements old.current.maps
  pub next : new.current.elements ≡ old.current.elements + 1
  pub empty : new.current.maps ≡ []

-- why the list that was read isn't shown by the list before it
abbrev pub IsGap : ChainOfLists → Gap → Type 0
IsGap c (Missing member signs) = IsVerdict c.family c.shown c.current (Lost member signs)
IsGap c (Unmet member) = IsVerdict c.family c.shown c.current (Unreached member)
IsGap c (TooMany member) = IsVerdict c.family c.shown c.current (Many member)
