-- Maps that are given by a rule for the sign of each increasing list, and the normal form of a map.
--
-- Reference: Björner, Las Vergnas, Sturmfels, White and Ziegler, Oriented Matroids, chapter 3.
use Rattle.std.specs.Prelude.{ℕ, ◌≡◌, ◌⊎◌, List, map}
use Rattle.om_signs.specs.declared.sign.Sign.{Sign}
use Rattle.om_signs.specs.declared.sign.Sign.TheVariants.{Plus}
use Rattle.om_subsets.specs.Subsets.{all_subsets}
use Rattle.om_chirotope.specs.Map.{SignMap, negated, IsLedBy}

-- the map of this rank on the elements 1 to `elements` in which each increasing list has the sign that the rule
-- gives it
abbrev pub map_by : ℕ → ℕ → (List ℕ → Sign) → SignMap
map_by rank elements rule = record { rank = rank; elements = elements; signs = map rule (all_subsets elements rank) }

-- the one of m and its negative whose first nonzero sign is plus
pub record IsNormalFormOf (m result : SignMap) : Type 0 where
  pub same : (result ≡ m) ⊎ (result ≡ negated m)
  pub normal : IsLedBy Plus result.signs
