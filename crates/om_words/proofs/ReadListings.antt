-- What calls read words as, step by step: colours and an element, and elements with signs.
--
-- Main definitions: IsReadColouring, IsReadLeading
use Rattle.std.specs.Prelude.{ℕ, ◌≡◌, ◌≤◌, ◌∷◌, List, [], length, Some}
use Rattle.std.specs.List.{filter_map}
use Rattle.om_signs.specs.declared.sign.Sign.TheVariants.{Plus}
use Rattle.om_words.specs.declared.colouring.Colouring.{Colouring}
use Rattle.om_words.specs.declared.leading.Leading.{Leading}
use Rattle.om_words.specs.Elements.{IsElement}
use Rattle.om_words.specs.Fits.{EachFits}
use Rattle.om_words.specs.Listings.{padded}
use Rattle.om_words.specs.ListingSteps.{colours_of, signed_of, is_leading}

-- the first word is read letter by letter as colours, and the second one as an element
pub record IsReadColouring (words : List (List ℕ)) (colouring : Colouring) : Type 0 where
  pub letters : List ℕ
  pub digits : List ℕ
  pub two : words ≡ letters ∷ digits ∷ []
  pub colours : colours_of letters ≡ Some colouring.colours
  pub count : colouring.count ≡ length letters
  pub element : IsElement digits colouring.e

-- each word is read as an element with a sign, behind the words before it
pub record IsReadLeading (words : List (List ℕ)) (leading : Leading) : Type 0 where
  pub some : 1 ≤ length words
  pub each : EachFits is_leading words
  pub list : leading.list ≡ padded (record { element = 1; sign = Plus }) (filter_map signed_of words)
  pub count : leading.count ≡ length words
