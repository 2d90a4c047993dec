-- How the bytes of an input are cut into pieces, line by line.
--
-- Trusted: these definitions say what a piece is.
use Rattle.std.specs.Prelude.{ℕ, ◌≡◌, ◌+◌, ◌<◌, List, [], ◌∷◌, ◌++◌, Bool, true, false, cond, not, nat_eq}
use Rattle.std.specs.Prelude.{codes, flat_map, map, bytes_eq}
use Rattle.std.specs.List.{list_all, list_any}
use Rattle.om_lines.specs.Lines.{end_line, first_word, has_any, with_first, words, is_line}

-- a line is its bytes, and a piece is its lines
abbrev pub Line : Type 0
Line = List ℕ

abbrev pub Piece : Type 0
Piece = List Line

-- The lines of an input, each with the line feed that ends it. A last line without a line feed counts if it isn't
-- empty.
abbrev pub full_lines : List ℕ → List Line
full_lines [] = []
full_lines (b ∷ bs) = cond (nat_eq b 10) ((10 ∷ []) ∷ full_lines bs) (with_first b (full_lines bs))

-- a line without its line feed
abbrev pub without_line_feed : Line → List ℕ
without_line_feed [] = []
without_line_feed (b ∷ bs) = cond (nat_eq b 10) [] (b ∷ without_line_feed bs)

-- whether a line has a word
abbrev pub has_word : Line → Bool
has_word line = has_any (words (without_line_feed line))

-- whether a line is the word `end` alone
abbrev pub closes : Line → Bool
closes line = is_line (words (without_line_feed line)) end_line

-- whether the first word of a line is `om`
abbrev pub opens : Line → Bool
opens line = bytes_eq (first_word (words (without_line_feed line))) (codes "om")

-- how many lines are the word `end` alone
abbrev pub ends : List Line → ℕ
ends [] = 0
ends (line ∷ lines) = cond (closes line) (ends lines + 1) (ends lines)

-- whether no line after the first line with a word opens a piece
abbrev pub is_unbroken : List Line → Bool
is_unbroken [] = true
is_unbroken (line ∷ lines) = cond (has_word line) (list_all (λ l. not (opens l)) lines) (is_unbroken lines)

-- The lines may be the first ones of a piece that closes with its `end` line number n: no piece ends with them or
-- between them.
pub record IsBegun (n : ℕ) (body : List Line) : Type 0 where
  pub few : ends body < n
  pub unbroken : is_unbroken body ≡ true

-- the lines are cut into pieces, each of which closes with its `end` line number n, if it closes
pub data AreCut (n : ℕ) : List Line → List Piece → Type 0 where
  -- lines without a word at the end of the input are no piece
  no_more : (rest : List Line) → list_any has_word rest ≡ false → AreCut n rest []
  -- a piece goes up to its `end` line number n, with this line
  closed : (body : Piece) (last : Line) (after : List Line) (pieces : List Piece) → IsBegun n body → ends body + 1 ≡ n
      → closes last ≡ true → AreCut n after pieces → AreCut n (body ++ last ∷ after) ((body ++ last ∷ []) ∷ pieces)
  -- or up to a line that opens the next piece, without this line, if a line of the piece has a word
  broken : (body : Piece) (next : Line) (after : List Line) (pieces : List Piece) → IsBegun n body
      → list_any has_word body ≡ true → opens next ≡ true → AreCut n (next ∷ after) pieces
      → AreCut n (body ++ next ∷ after) (body ∷ pieces)
  -- or to the end of the input
  at_end : (body : Piece) → IsBegun n body → list_any has_word body ≡ true → AreCut n body (body ∷ [])

-- the bytes of lines
abbrev pub bytes_of : List Line → List ℕ
bytes_of = flat_map (λ line. line)

-- the bytes are cut into these pieces
abbrev pub IsCut : ℕ → List ℕ → List (List ℕ) → Type 0
IsCut n bytes pieces = (parts : List Piece) × (AreCut n (full_lines bytes) parts × (pieces ≡ map bytes_of parts))

-- the bytes have one cut into pieces
abbrev pub HasOneCut : ℕ → List ℕ → Type 0
HasOneCut n bytes =
    (pieces : List (List ℕ)) × (IsCut n bytes pieces ×
    ((others : List (List ℕ)) → IsCut n bytes others → others ≡ pieces))

-- the bytes are the pieces, one after the other, followed by a rest that has no word
abbrev pub GiveBack : List (List ℕ) → List ℕ → Type 0
GiveBack pieces bytes =
    (rest : List ℕ) × ((bytes ≡ flat_map (λ piece. piece) pieces ++ rest) ×
    (list_any has_word (full_lines rest) ≡ false))
