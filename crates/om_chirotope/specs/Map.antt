-- Maps that give a sign to each increasing list of some elements, and the two kinds of sign vectors of a map.
--
-- Reference: Björner, Las Vergnas, Sturmfels, White and Ziegler, Oriented Matroids, chapter 3.
use Rattle.std.specs.Prelude.{ℕ, ◌≡◌, ◌<◌, ◌≤◌, ◌-◌, List, length, map, cond, nat_eq, ◌%◌}
use Rattle.om_signs.specs.declared.sign.Sign.{Sign}
use Rattle.om_signs.specs.declared.sign.Sign.TheVariants.{Minus, Zero, Plus}
use Rattle.om_signs.specs.declared.raw_map.RawMap.{RawMap}
use Rattle.om_signs.specs.declared.limits.TheConstants.{MAX_PLACES}
use Rattle.om_signs.specs.Sign.{opposite}
use Rattle.om_signs.specs.SignVec.{at}
use Rattle.om_subsets.specs.Subsets.{rank_of, choose, all_subsets}
use Rattle.om_laws.specs.Tuples.{value}
use Rattle.om_laws.specs.Relations.{around, along}
use Rattle.om_laws.specs.Bridge.{as_list}

-- a map of a rank on the elements 1 to `elements`, given by the signs of the increasing lists in lexicographic
-- order
pub record SignMap : Type 0 where
  pub rank : ℕ
  pub elements : ℕ
  pub signs : List Sign

-- the map of a raw map
abbrev pub map_of : RawMap → SignMap
map_of raw = record { rank = raw.rank; elements = raw.elements; signs = raw.signs }

-- a sign for each increasing list of as many elements as the rank
pub record IsMap (m : SignMap) : Type 0 where
  pub part : m.rank ≤ m.elements
  pub whole : length m.signs ≡ choose m.elements m.rank

-- a sign for each increasing list of as many elements as the rank, on 1 to MAX_PLACES elements
pub record IsWholeMap (m : SignMap) : Type 0 where
  pub low : 1 ≤ m.elements
  pub high : m.elements ≤ MAX_PLACES
  pub rank : m.rank ≤ m.elements
  pub whole : length m.signs ≡ choose m.elements m.rank

-- the sign of an increasing list: the one at its place in lexicographic order
abbrev pub chi_of : SignMap → List ℕ → Sign
chi_of m xs = at m.signs (rank_of m.elements xs)

-- the value on any tuple: zero at a repeat, and else the sign of the sorted tuple times the sign of the permutation
-- that sorts it
abbrev pub value_of : SignMap → List ℕ → Sign
value_of m = value (chi_of m)

-- The vector V of an increasing list S. At its i-th element, counted from 1, it is the value of S without this
-- element times (-1)^i; off S it is zero.
abbrev pub circuit_vector : SignMap → List ℕ → List Sign
circuit_vector m s = as_list m.elements (around (value_of m) s)

-- the vector U of an increasing list A: at e the value of A followed by e
abbrev pub cocircuit_vector : SignMap → List ℕ → List Sign
cocircuit_vector m a = as_list m.elements (along (value_of m) a)

-- the vectors U of all increasing lists of one element less than the rank, in lexicographic order
abbrev pub cocircuit_vectors : SignMap → List (List Sign)
cocircuit_vectors m = map (cocircuit_vector m) (all_subsets m.elements (m.rank - 1))

-- the map with every sign negated
abbrev pub negated : SignMap → SignMap
negated m = record { rank = m.rank; elements = m.elements; signs = map opposite m.signs }

-- the first nonzero sign is s
abbrev pub IsLedBy : Sign → List Sign → Type 0
IsLedBy s signs = (k : ℕ) × (at signs k ≡ s) × ((j : ℕ) → j < k → at signs j ≡ Zero)

-- (-1)^k
abbrev pub parity_sign : ℕ → Sign
parity_sign k = cond (nat_eq (k % 2) 0) Plus Minus
