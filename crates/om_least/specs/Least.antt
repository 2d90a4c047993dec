-- The order of maps by their signs in reverse lexicographic order, and the least map of a class up to relabelling and
-- reorientation.
--
-- Reference: Björner, Las Vergnas, Sturmfels, White and Ziegler, Oriented Matroids, chapters 3 and 7; Finschi and
-- Fukuda, Generation of oriented matroids, Discrete and Computational Geometry 27 (2002).
use Rattle.std.specs.Prelude.{ℕ, ◌≡◌, ◌+◌, ◌<◌, List, [], length, map, slice_index_or}
use Rattle.std.specs.declared.cmp.Ordering.TheVariants.{Less}
use Rattle.om_signs.specs.declared.sign.Sign.{Sign}
use Rattle.om_signs.specs.Order.{lexicographic}
use Rattle.om_subsets.specs.Reverse.{revlex_subsets}
use Rattle.om_chirotope.specs.Map.{SignMap, chi_of}
use Rattle.om_symmetry.specs.declared.signed_element.SignedElement.{SignedElement}
use Rattle.om_symmetry.specs.Permutations.{IsSignedPermutation, acted, AreIsomorphic}

-- the signs of a map in reverse lexicographic order of the sets: those of the sets with the last element come last
abbrev pub signs_in_reverse : SignMap → List Sign
signs_in_reverse m = map (chi_of m) (revlex_subsets m.elements m.rank)

-- the signs of m, read so, come before those of k lexicographically, minus before zero and zero before plus
abbrev pub IsBefore : SignMap → SignMap → Type 0
IsBefore m k = lexicographic (signs_in_reverse m) (signs_in_reverse k) ≡ Less

-- no image of the map under a signed permutation comes before it
abbrev pub IsLeast : SignMap → Type 0
IsLeast m = (w : List SignedElement) → IsSignedPermutation m.elements w → IsBefore (acted w m) m → ⊥

-- what stands off a list of maps: the map of rank 0 on no elements, without a sign
abbrev pub no_map : SignMap
no_map = record { rank = 0; elements = 0; signs = [] }

-- the map at a place of a list, counted from 0
abbrev pub map_at : List SignMap → ℕ → SignMap
map_at maps i = slice_index_or maps i no_map

-- each map of the list comes before the next
abbrev pub IsIncreasing : List SignMap → Type 0
IsIncreasing maps = (i : ℕ) → i + 1 < length maps → IsBefore (map_at maps i) (map_at maps (i + 1))

-- m is isomorphic to the map at this place of the list, and to none at another
pub record IsOfOneMember (maps : List SignMap) (m : SignMap) : Type 0 where
  pub place : ℕ
  pub within : place < length maps
  pub isomorphic : AreIsomorphic m (map_at maps place)
  pub only : (i : ℕ) → i < length maps → AreIsomorphic m (map_at maps i) → i ≡ place
