-- All sets of one size, and the places at which something is violated.
use Rattle.std.specs.Prelude.{ℕ, ◌≡◌, ◌<◌, ◌-◌, ◌⊎◌, List, map}
use Rattle.om_subsets.specs.Subsets.{choose, all_subsets, subset_at, IsMember, with_element, without_element}
use Rattle.om_subsets.specs.Members.{Chosen}
use Rattle.om_chirotope.specs.Map.{SignMap}
use Rattle.om_chirotope.specs.ThreeTerm.{IsBasis}
use Rattle.om_threeterm.specs.Violations.{IsUnexchanged, IsUnbalancedList}

-- the sets of r of the elements 1 to n, in lexicographic order
abbrev pub all_chosen : ℕ → ℕ → List Chosen
all_chosen n r = map (λ xs. record { n = n; elements = xs }) (all_subsets n r)

-- f is e, or f isn't in B and exchanging e for f in B gives a basis
abbrev pub IsInPlace : SignMap → List ℕ → ℕ → ℕ → Type 0
IsInPlace m b e f = (f ≡ e) ⊎ ((IsMember f b → ⊥) × IsBasis m (with_element f (without_element e b)))

-- some exchange of the set at place k is violated
abbrev pub IsUnexchangedAt : SignMap → ℕ → Type 0
IsUnexchangedAt m k = (k < choose m.elements m.rank)
    × ((c : List ℕ) × (e : ℕ) × IsUnexchanged m (subset_at m.elements m.rank k) c e)

-- some relation of the list P at place k is violated
abbrev pub IsUnbalancedAt : SignMap → ℕ → Type 0
IsUnbalancedAt m k = (k < choose m.elements (m.rank - 2))
    × ((q : List ℕ) × IsUnbalancedList m (subset_at m.elements (m.rank - 2) k) q)
