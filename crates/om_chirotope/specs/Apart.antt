-- The first vector U of a map that isn't orthogonal to a given vector.
use Rattle.std.specs.Prelude.{ℕ, ◌≡◌, ◌+◌, List, length}
use Rattle.om_signs.specs.declared.sign.Sign.{Sign}
use Rattle.om_signs.specs.SignVec.{IsOrthogonal}
use Rattle.om_subsets.specs.Subsets.{IsSubsetFrom}
use Rattle.om_subsets.specs.Lists.{IsBefore}
use Rattle.om_subsets.specs.Members.{Chosen}
use Rattle.om_chirotope.specs.Map.{SignMap, cocircuit_vector}

-- the vector is orthogonal to the vector U of each increasing list of one element less than the rank
abbrev pub IsOrthogonalToAll : SignMap → List Sign → Type 0
IsOrthogonalToAll m v = (b : List ℕ) → IsSubsetFrom 1 m.elements b → length b + 1 ≡ m.rank
    → IsOrthogonal v (cocircuit_vector m b)

-- A is the first list of one element less than the rank, in lexicographic order, whose vector U isn't orthogonal to
-- the vector
pub record IsFirstApart (m : SignMap) (v : List Sign) (a : Chosen) : Type 0 where
  pub n_is : a.n ≡ m.elements
  pub list : IsSubsetFrom 1 m.elements a.elements
  pub size : length a.elements + 1 ≡ m.rank
  pub apart : IsOrthogonal v (cocircuit_vector m a.elements) → ⊥
  pub earlier : (b : List ℕ) → IsSubsetFrom 1 m.elements b → length b + 1 ≡ m.rank → IsBefore b a.elements
      → IsOrthogonal v (cocircuit_vector m b)
