-- Lists of chirotopes of rank 3 on the same elements, packed.
use Rattle.std.specs.Prelude.{ℕ, ◌≡◌, ◌≤◌, ◌<◌, ◌*◌, List, length, map, slice_index_or, All}
use Rattle.std.specs.List.{range_with_len}
use Rattle.om_signs.specs.declared.limits.TheConstants.{MAX_ELEMENTS}
use Rattle.om_subsets.specs.Subsets.{choose}
use Rattle.om_chirotope.specs.Map.{SignMap}
use Rattle.om_chirotope.specs.Chirotope.{IsChirotope}
use Rattle.om_symmetry.specs.Permutations.{AreIsomorphic}
use Rattle.om_levels.specs.Packing.{bytes_for, packed, unpacked}

-- a number of elements, and maps on so many
pub record Members : Type 0 where
  pub elements : ℕ
  pub maps : List SignMap

-- a chirotope of rank 3 on n elements
pub record IsChirotopeOfRank3 (n : ℕ) (m : SignMap) : Type 0 where
  pub axioms : IsChirotope m
  pub rank : m.rank ≡ 3
  pub elements : m.elements ≡ n

-- the map at a place of a list, counted from 0
pub record IsMemberAt (maps : List SignMap) (place : ℕ) (m : SignMap) : Type 0 where
  pub below : place < length maps
  pub same : slice_index_or maps place m ≡ m

-- how many bytes a map of rank 3 on n elements takes
abbrev pub row_size : ℕ → ℕ
row_size n = bytes_for (choose n 3)

-- the map whose bytes are the row with this number
abbrev pub row_map : ℕ → List ℕ → ℕ → SignMap
row_map n bytes row = record { rank = 3; elements = n; signs = unpacked (choose n 3) bytes (row * row_size n) }

-- the maps of so many rows
abbrev pub row_maps : ℕ → ℕ → List ℕ → List SignMap
row_maps n count bytes = map (row_map n bytes) (range_with_len 0 count)

-- the bytes are those of so many chirotopes of rank 3 on n elements
pub record AreRows (n count : ℕ) (bytes : List ℕ) : Type 0 where
  pub low : 3 ≤ n
  pub high : n ≤ MAX_ELEMENTS
  pub whole : length bytes ≡ count * row_size n
  pub each : All IsChirotope (row_maps n count bytes)

-- if these bytes are those of a map of rank 3 on n elements, and there is a member at the place, it is the map
abbrev pub IsRowOf : Members → ℕ → List ℕ → Type 0
IsRowOf l place bytes = (m : SignMap) → m.rank ≡ 3 → m.elements ≡ l.elements → length m.signs ≡ choose l.elements 3
    → bytes ≡ packed m.signs → place < length l.maps → IsMemberAt l.maps place m

-- the map is isomorphic to the member of a list at a place
pub record IsIsomorphicTo (maps : List SignMap) (m : SignMap) (place : ℕ) : Type 0 where
  pub member : SignMap
  pub at : IsMemberAt maps place member
  pub isomorphic : AreIsomorphic m member

-- maps on as many elements, and place by place the second map is isomorphic to the first
pub record AreImages (l images : Members) : Type 0 where
  pub elements : images.elements ≡ l.elements
  pub as_many : length images.maps ≡ length l.maps
  pub each : (place : ℕ) (m d : SignMap) → IsMemberAt l.maps place m → IsMemberAt images.maps place d
      → AreIsomorphic d m
