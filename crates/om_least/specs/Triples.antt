-- The values of a map of rank 3 at all triples of elements, as a table.
use Rattle.std.specs.Prelude.{ℕ, ◌≡◌, ◌+◌, ◌*◌, List, [], ◌∷◌, length}
use Rattle.om_signs.specs.declared.sign.Sign.{Sign}
use Rattle.om_signs.specs.declared.limits.TheConstants.{MAX_PLACES}
use Rattle.om_signs.specs.SignVec.{at}
use Rattle.om_laws.specs.Sorting.{IsElement}
use Rattle.om_chirotope.specs.Map.{SignMap, value_of}

-- the place of three elements
abbrev pub place_of_triple : ℕ → ℕ → ℕ → ℕ
place_of_triple x y z = (x * MAX_PLACES + y) * MAX_PLACES + z

-- at the place of three elements of 1 to n stands the value of this tuple
pub record IsTableOfValues (m : SignMap) (table : List Sign) : Type 0 where
  pub whole : length table ≡ MAX_PLACES * MAX_PLACES * MAX_PLACES
  pub values : (x y z : ℕ) → IsElement m.elements x → IsElement m.elements y → IsElement m.elements z
      → at table (place_of_triple x y z) ≡ value_of m (x ∷ y ∷ z ∷ [])
