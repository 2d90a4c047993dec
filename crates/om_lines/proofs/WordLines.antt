-- Lines as their words.
--
-- Main results: is_line-Decides, wordful-append
use Rattle.std.proofs.Common.{◌≡◌, ℕ, List, ◌++◌, map, refl, ap, ◌∙◌}
use Rattle.std.specs.Prelude.{Decides, filter}
use Rattle.std.proofs.lemmas.Slice.Eq.{slice_eq-Decides, bytes_eq-Decides}
use Rattle.std.proofs.lemmas.List.{map-append}
use Rattle.std.proofs.lemmas.List.Elements.{filter-append}
use Rattle.om_lines.specs.Lines.{words, wordful, has_any, is_line}

-- lines that the test takes for the same are equal
pub is_line-Decides : (w v : List (List ℕ)) → Decides (is_line w v) (w ≡ v)
is_line-Decides w v = slice_eq-Decides bytes_eq-Decides w v (is_line w v) refl

-- the lines with words of two lists, one after the other
pub wordful-append : (xs ys : List (List ℕ)) → wordful (xs ++ ys) ≡ wordful xs ++ wordful ys
wordful-append xs ys = ap (filter has_any) (map-append words xs ys)
    ∙ filter-append has_any (map words xs) (map words ys)
