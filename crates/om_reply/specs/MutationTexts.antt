-- The text of a list of mutations.
use Rattle.std.specs.Prelude.{ℕ, List, [], ◌∷◌, ◌++◌, codes, length, map}
use Rattle.std.specs.Fmt.{decimal}
use Rattle.om_subsets.specs.Members.{Chosen}
use Rattle.om_document.specs.Print.{text_of}
use Rattle.om_printing.specs.Texts.{spaced, subset_text}

-- sets, one on each line
abbrev pub set_lines : List Chosen → List (List ℕ)
set_lines sets = map (λ s. subset_text s.elements) sets

-- a line with the number of mutations, a line for each, and `end`
abbrev pub mutation_lines : List Chosen → List (List ℕ)
mutation_lines sets = (codes "mutations" ++ spaced (decimal (length sets))) ∷ (set_lines sets ++ codes "end" ∷ [])

-- the text of these lines
abbrev pub mutations_text : List Chosen → List ℕ
mutations_text sets = text_of (mutation_lines sets)
