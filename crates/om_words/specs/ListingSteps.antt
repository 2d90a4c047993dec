-- How calls read colours, and elements with signs: letter by letter and word by word, no part of the meaning.
use Rattle.std.specs.Prelude.{ℕ, ◌∷◌, List, [], Bool, false, cond, not, nat_eq, nat_le, nat_lt}
use Rattle.std.specs.Prelude.{◌&&◌, length, Option, Some, None, is_some, option_map}
use Rattle.std.specs.List.{list_all, list_any, filter_map}
use Rattle.om_signs.specs.declared.limits.TheConstants.{MAX_ELEMENTS}
use Rattle.om_signs.specs.declared.sign.Sign.{Sign}
use Rattle.om_signs.specs.declared.sign.Sign.TheVariants.{Plus, Minus}
use Rattle.om_oriented.specs.declared.colour.Colour.{Colour}
use Rattle.om_oriented.specs.declared.colour.Colour.TheVariants.{Red, Green, Black, White}
use Rattle.om_lexext.specs.declared.signed.Signed.{Signed}
use Rattle.om_words.specs.declared.limits.TheConstants.{MAX_LISTED}
use Rattle.om_words.specs.Listings.{padded}
use Rattle.om_words.specs.Options.{number_within}

-- ---- `paint COLOURS E`

abbrev pub colour_of : ℕ → Option Colour
colour_of b =
    cond (nat_eq b 82) (Some Red)
    (cond (nat_eq b 71) (Some Green) (cond (nat_eq b 66) (Some Black) (cond (nat_eq b 87) (Some White) None)))

-- 1 to 20 letters `R`, `G`, `B` or `W`
abbrev pub are_colours : List ℕ → Bool
are_colours word = nat_le 1 (length word) && nat_le (length word) MAX_LISTED
    && list_all (λ b. is_some (colour_of b)) word

-- the colours that a word spells
abbrev pub colours_of : List ℕ → Option (List Colour)
colours_of word = cond (are_colours word) (Some (padded White (filter_map colour_of word))) None

-- ---- `lexext W..`

abbrev pub with_sign : Sign → Option ℕ → Option Signed
with_sign s e = option_map (λ (e : ℕ). record { element = e; sign = s }) e

-- the element with a sign that a word spells: `+` or `-`, and the number of the element
abbrev pub signed_of : List ℕ → Option Signed
signed_of [] = None
signed_of (b ∷ digits) = cond (nat_eq b 43) (with_sign Plus (number_within 1 MAX_ELEMENTS digits))
    (cond (nat_eq b 45) (with_sign Minus (number_within 1 MAX_ELEMENTS digits)) None)

abbrev pub has_element : ℕ → Option Signed → Bool
has_element e None = false
has_element e (Some x) = nat_eq x.element e

-- whether some word spells element e with a sign
abbrev pub is_among : ℕ → List (List ℕ) → Bool
is_among e words = list_any (λ word. has_element e (signed_of word)) words

-- whether there is an element with a sign, and no word before spells this element
abbrev pub is_new : List (List ℕ) → Option Signed → Bool
is_new before None = false
is_new before (Some x) = not (is_among x.element before)

-- whether the word spells an element with a sign, no word before spells this element, and fewer than 20 words stand
-- before
abbrev pub is_leading : List (List ℕ) → List ℕ → Bool
is_leading before word = nat_lt (length before) MAX_LISTED && is_new before (signed_of word)
