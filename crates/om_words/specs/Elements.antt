-- Words that are the number of an element.
use Rattle.std.specs.Prelude.{ℕ, ◌≡◌, ◌≤◌, List}
use Rattle.std.specs.Fmt.{decimal}
use Rattle.om_signs.specs.declared.limits.TheConstants.{MAX_ELEMENTS}

-- the word is the number of an element: digits without a leading zero, from 1 to the limit on elements
pub record IsElement (word : List ℕ) (e : ℕ) : Type 0 where
  pub low : 1 ≤ e
  pub high : e ≤ MAX_ELEMENTS
  pub digits : word ≡ decimal e
