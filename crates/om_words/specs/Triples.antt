-- Three strictly increasing elements.
use Rattle.std.specs.Prelude.{ℕ, ◌≡◌, ◌<◌, ◌≤◌, List, [], ◌∷◌, Some, slice_get}
use Rattle.std.specs.Fmt.{decimal}
use Rattle.om_signs.specs.declared.limits.TheConstants.{MAX_ELEMENTS}
use Rattle.om_words.specs.Elements.{IsElement}

-- the words are the numbers of three strictly increasing elements
pub record AreTriple (words : List (List ℕ)) (triple : ℕ × ℕ × ℕ) : Type 0 where
  pub low : 1 ≤ triple.0
  pub first : triple.0 < triple.1
  pub second : triple.1 < triple.2
  pub high : triple.2 ≤ MAX_ELEMENTS
  pub digits : words ≡ decimal triple.0 ∷ decimal triple.1 ∷ decimal triple.2 ∷ []

-- the word is the number of an element from low to high
pub record IsElementWithin (word : List ℕ) (low high e : ℕ) : Type 0 where
  pub element : IsElement word e
  pub above : low ≤ e
  pub below : e ≤ high

-- the word at this place, counted from 0, is the number of an element from low to high
pub record IsElementAt (words : List (List ℕ)) (place low high e : ℕ) : Type 0 where
  pub word : List ℕ
  pub there : slice_get words place ≡ Some word
  pub within : IsElementWithin word low high e
