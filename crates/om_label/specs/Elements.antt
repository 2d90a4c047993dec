-- Signed elements that have a place in a table.
use Rattle.std.specs.Prelude.{ℕ, ◌<◌, List, get_or}
use Rattle.om_signs.specs.declared.limits.TheConstants.{MAX_PLACES}
use Rattle.om_symmetry.specs.declared.signed_element.SignedElement.{SignedElement}
use Rattle.om_symmetry.specs.Permutations.{no_element}

-- a signed element that has a place in a table
abbrev pub IsOnTable : SignedElement → Type 0
IsOnTable a = a.element < MAX_PLACES

-- each signed element of the list has a place in a table
abbrev pub AreOnTable : List SignedElement → Type 0
AreOnTable w = (k : ℕ) → IsOnTable (get_or w k no_element)
