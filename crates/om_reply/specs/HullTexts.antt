-- The text of the hull of an acyclic oriented matroid.
use Rattle.std.specs.Prelude.{ℕ, ◌+◌, List, [], ◌∷◌, ◌++◌, codes}
use Rattle.std.specs.Fmt.{decimal}
use Rattle.om_signs.specs.declared.sign.Sign.{Sign}
use Rattle.om_oriented.specs.declared.painted.Painted.{Painted}
use Rattle.om_oriented.specs.declared.painted.Painted.TheVariants.{Circuit, Cocircuit}
use Rattle.om_document.specs.Print.{text_of}
use Rattle.om_printing.specs.Texts.{spaced, signs_text}

-- a word, an element and a sign vector
abbrev pub element_text : List ℕ → ℕ → List Sign → List ℕ
element_text word e X = word ++ spaced (decimal e) ++ spaced (signs_text X)

-- an element: a cocircuit shows that it is extreme, and a circuit that it isn't
abbrev pub item_text : ℕ → Painted → List ℕ
item_text e (Circuit X) = element_text (codes "inside") e X
item_text e (Cocircuit Y) = element_text (codes "extreme") e Y

-- the elements from e on, one on each line
abbrev pub item_lines : ℕ → List Painted → List (List ℕ)
item_lines e [] = []
item_lines e (x ∷ xs) = item_text e x ∷ item_lines (e + 1) xs

-- `acyclic`, a line for each element, and `end`
abbrev pub hull_lines : List Painted → List (List ℕ)
hull_lines items = codes "acyclic" ∷ (item_lines 1 items ++ codes "end" ∷ [])

-- the text of these lines
abbrev pub hull_text : List Painted → List ℕ
hull_text items = text_of (hull_lines items)
