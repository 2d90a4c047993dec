-- The lines of an input, and the words of a line.
--
-- Trusted: these definitions say what a document is, so read them with care.
use Rattle.std.specs.Prelude.{ℕ, ◌≡◌, ◌⊎◌, ◌++◌, List, [], ◌∷◌, Bool, true, false, cond, nat_eq, ◌||◌, filter, map}
use Rattle.std.specs.Prelude.{codes, bytes_eq}
use Rattle.std.specs.Cmp.Lexicographic.{pointwise}

-- a byte in front of the first piece, or as a piece of its own if there is none
abbrev pub with_first : ℕ → List (List ℕ) → List (List ℕ)
with_first b [] = (b ∷ []) ∷ []
with_first b (x ∷ xs) = (b ∷ x) ∷ xs

-- the pieces between line feeds; a last one that no line feed ends counts if it isn't empty
abbrev pub lines : List ℕ → List (List ℕ)
lines [] = []
lines (b ∷ bs) = cond (nat_eq b 10) ([] ∷ lines bs) (with_first b (lines bs))

-- the bytes are a line and the bytes after it, with a line feed between them, or they are one line that no line feed
-- ends
abbrev pub IsSplit : List ℕ → List ℕ → List ℕ → Type 0
IsSplit bytes line after = (bytes ≡ line ++ 10 ∷ after) ⊎ ((bytes ≡ line) × (after ≡ []))

-- the bytes of a line before its first `#`
abbrev pub uncommented : List ℕ → List ℕ
uncommented [] = []
uncommented (b ∷ bs) = cond (nat_eq b 35) [] (b ∷ uncommented bs)

-- space, tab and carriage return; every other byte is part of a word
abbrev pub is_blank : ℕ → Bool
is_blank b = nat_eq b 32 || nat_eq b 9 || nat_eq b 13

-- the pieces between blanks, empty ones among them
abbrev pub pieces : List ℕ → List (List ℕ)
pieces [] = [] ∷ []
pieces (b ∷ bs) = cond (is_blank b) ([] ∷ pieces bs) (with_first b (pieces bs))

-- whether a list isn't empty
abbrev pub has_any : {A : Type 0} → List A → Bool
has_any [] = false
has_any (x ∷ xs) = true

-- the longest runs of bytes other than blanks
abbrev pub runs : List ℕ → List (List ℕ)
runs bs = filter has_any (pieces bs)

-- the words of a line
abbrev pub words : List ℕ → List (List ℕ)
words line = runs (uncommented line)

-- the words of each line that has any; other lines are skipped, wherever they are
abbrev pub wordful : List (List ℕ) → List (List (List ℕ))
wordful ls = filter has_any (map words ls)

-- whether two lines have the same words
abbrev pub is_line : List (List ℕ) → List (List ℕ) → Bool
is_line = pointwise bytes_eq

-- the first word of a line, or no bytes if it has none
abbrev pub first_word : List (List ℕ) → List ℕ
first_word [] = []
first_word (w ∷ ws) = w

-- the words of the last line
abbrev pub end_line : List (List ℕ)
end_line = codes "end" ∷ []

-- some list of lines in the language, of any length, begins with these lines
abbrev pub Begins : (List (List ℕ) → Type 0) → List (List ℕ) → Type 0
Begins Language ls = (more : List (List ℕ)) × Language (ls ++ more)
