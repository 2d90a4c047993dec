-- The values of a map of rank 3 at all tuples, in a table of rows.
use Rattle.std.specs.Prelude.{ℕ, ◌≡◌, ◌+◌, ◌-◌, ◌<◌, ◌≤◌, List, [], ◌∷◌, length}
use Rattle.std.proofs.Math.ListN.{get_or}
use Rattle.om_signs.specs.declared.limits.TheConstants.{MAX_ELEMENTS, MAX_PLACES}
use Rattle.om_signs.specs.declared.sign.Sign.{Sign}
use Rattle.om_chirotope.specs.Map.{SignMap}
use Rattle.om_chirotope.specs.Pictures.{AreRowsBelow}

-- The rows of each element p below a limit are at p - 1 of the table. The row at x - 1 has at each y the value of
-- p, x and y.
abbrev pub HasRowsBelow : SignMap → List (List (List Sign)) → ℕ → Type 0
HasRowsBelow m table limit = (p : ℕ) → 1 ≤ p → p < limit → (length (get_or table (p - 1) []) ≡ MAX_PLACES)
    × AreRowsBelow m (p ∷ []) (get_or table (p - 1) []) (m.elements + 1)

-- the table of a map of rank 3, with room for all elements
pub record IsTable (m : SignMap) (table : List (List (List Sign))) : Type 0 where
  pub high : m.elements ≤ MAX_ELEMENTS
  pub room : length table ≡ MAX_PLACES
  pub rows : HasRowsBelow m table (m.elements + 1)
