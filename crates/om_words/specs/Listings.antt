-- Colours of elements, and elements with signs, as words list them.
use Rattle.std.specs.Prelude.{ℕ, ◌≡◌, ◌≤◌, ◌-◌, ◌∷◌, ◌++◌, List, [], length, map, replicate}
use Rattle.std.specs.Fmt.{decimal}
use Rattle.om_signs.specs.declared.limits.TheConstants.{MAX_ELEMENTS}
use Rattle.om_signs.specs.declared.sign.Sign.TheVariants.{Plus}
use Rattle.om_lines.specs.Words.{byte_of}
use Rattle.om_oriented.specs.declared.colour.Colour.{Colour}
use Rattle.om_oriented.specs.declared.colour.Colour.TheVariants.{Red, Green, Black, White}
use Rattle.om_lexext.specs.declared.signed.Signed.{Signed}
use Rattle.om_lexext.specs.Lexicographic.{IsLexicographicList}
use Rattle.om_words.specs.declared.limits.TheConstants.{MAX_LISTED}
use Rattle.om_words.specs.declared.colouring.Colouring.{Colouring}
use Rattle.om_words.specs.declared.leading.Leading.{Leading}
use Rattle.om_words.specs.Elements.{IsElement}

-- the values, followed by the filler up to the greatest length of a list
abbrev pub padded : {A : Type 0} → A → List A → List A
padded filler values = values ++ replicate (MAX_LISTED - length values) filler

-- ---- `paint COLOURS E`

-- the letter of a colour: `R`, `G`, `B` or `W`
abbrev pub letter_of : Colour → ℕ
letter_of Red = 82
letter_of Green = 71
letter_of Black = 66
letter_of White = 87

-- the words are the letters of 1 to 20 colours and the number of an element
pub record AreColouring (words : List (List ℕ)) (colouring : Colouring) : Type 0 where
  pub listed : List Colour
  pub digits : List ℕ
  pub two : words ≡ map letter_of listed ∷ digits ∷ []
  pub some : 1 ≤ length listed
  pub few : length listed ≤ MAX_LISTED
  pub colours : colouring.colours ≡ padded White listed
  pub count : colouring.count ≡ length listed
  pub element : IsElement digits colouring.e

-- ---- `lexext W..`

-- the word of an element with a sign: `+` or `-`, and the number of the element
abbrev pub signed_word : Signed → List ℕ
signed_word x = byte_of x.sign ∷ decimal x.element

-- the words are those of distinct elements with signs, at least one, and no sign is zero
pub record AreLeading (words : List (List ℕ)) (leading : Leading) : Type 0 where
  pub listed : List Signed
  pub lawful : IsLexicographicList MAX_ELEMENTS listed
  pub spelled : words ≡ map signed_word listed
  pub list : leading.list ≡ padded (record { element = 1; sign = Plus }) listed
  pub count : leading.count ≡ length listed
