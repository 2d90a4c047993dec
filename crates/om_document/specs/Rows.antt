-- Lists of sign vectors: the distinct members, and the sorted ones.
--
-- Trusted: a document's members are the distinct ones of its lines, and the canonical form has them sorted.
use Rattle.std.specs.Prelude.{List, [], ◌∷◌, Bool, cond, not, filter}
use Rattle.std.specs.Cmp.Lexicographic.{pointwise}
use Rattle.std.specs.Ordering.{is_lt}
use Rattle.om_signs.specs.declared.sign.Sign.{Sign}
use Rattle.om_signs.specs.Order.{lexicographic}
use Rattle.om_signs.specs.Sign.{equal_signs}

-- whether two sign vectors are equal
abbrev pub same_row : List Sign → List Sign → Bool
same_row = pointwise equal_signs

-- the members without repetition, in the order of their first places
abbrev pub distinct : List (List Sign) → List (List Sign)
distinct [] = []
distinct (x ∷ xs) = x ∷ filter (λ y. not (same_row x y)) (distinct xs)

-- whether x comes before y: the first position where they differ decides, with minus before zero before plus
abbrev pub is_before : List Sign → List Sign → Bool
is_before x y = is_lt (lexicographic x y)

-- x among sorted members, after those that come before it
abbrev pub placed : List Sign → List (List Sign) → List (List Sign)
placed x [] = x ∷ []
placed x (y ∷ ys) = cond (is_before y x) (y ∷ placed x ys) (x ∷ y ∷ ys)

-- the members, sorted
abbrev pub sorted : List (List Sign) → List (List Sign)
sorted [] = []
sorted (x ∷ xs) = placed x (sorted xs)
