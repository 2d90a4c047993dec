-- The text of a list of extensions.
use Rattle.std.specs.Prelude.{ℕ, List, [], ◌∷◌, ◌++◌, Bool, true, false, codes, map}
use Rattle.std.specs.Fmt.{decimal}
use Rattle.om_signs.specs.declared.sign.Sign.{Sign}
use Rattle.om_localize.specs.declared.listing.Listing.{Listing}
use Rattle.om_document.specs.Print.{text_of}
use Rattle.om_printing.specs.Texts.{spaced, signs_text}

-- signatures, one on each line
abbrev pub signature_lines : List (List Sign) → List (List ℕ)
signature_lines lines = map signs_text lines

-- the last word, which says whether a further signature exists
abbrev pub last_word : Bool → List ℕ
last_word true = codes "more"
last_word false = codes "end"

-- the version, a line with the number of elements of the map, a line for each signature, and the last word
abbrev pub extension_lines : ℕ → Listing → List (List ℕ)
extension_lines n l = codes "om 1" ∷ (codes "extensions" ++ spaced (decimal n))
    ∷ (signature_lines l.lines ++ last_word l.more ∷ [])

-- the text of these lines
abbrev pub extensions_text : ℕ → Listing → List ℕ
extensions_text n l = text_of (extension_lines n l)
