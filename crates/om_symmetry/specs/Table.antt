-- Lists of signed elements in a table of a fixed size.
use Rattle.std.specs.Prelude.{ℕ, ◌≡◌, ◌≤◌, List, length}
use Rattle.om_signs.specs.declared.limits.TheConstants.{MAX_PLACES}
use Rattle.om_symmetry.specs.declared.signed_element.SignedElement.{SignedElement}

-- the table has all its places, the first n of which are in use
pub record IsTable (table : List SignedElement) (n : ℕ) : Type 0 where
  pub few : n ≤ MAX_PLACES
  pub whole : length table ≡ MAX_PLACES
