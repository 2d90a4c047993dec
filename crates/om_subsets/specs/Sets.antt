-- The sets of one size as a list, in lexicographic order.
use Rattle.std.specs.Prelude.{ℕ, List, [], map, drop, length, Option, Some, None}
use Rattle.om_subsets.specs.Subsets.{all_subsets, rank_of}
use Rattle.om_subsets.specs.Members.{Chosen}

-- an increasing list of some of the numbers 1 to n, as a set
abbrev pub set_of : ℕ → List ℕ → Chosen
set_of n xs = record { n = n; elements = xs }

-- the sets of r of the elements 1 to n, in lexicographic order
abbrev pub all_sets : ℕ → ℕ → List Chosen
all_sets n r = map (set_of n) (all_subsets n r)

-- a set and those of its size after it, in lexicographic order; no set where there is none
abbrev pub set_and_later : Option Chosen → List Chosen
set_and_later None = []
set_and_later (Some s) = drop (rank_of s.n s.elements) (all_sets s.n (length s.elements))
