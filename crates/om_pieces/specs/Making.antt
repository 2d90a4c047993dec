-- The piece in the making: what is kept of it and of its last line, and how a byte changes it. This is how the
-- cutter works; the pieces of an input, which it is for, are defined in `Pieces`. That the two agree is the contract of
-- `one_cut`.
use Rattle.std.specs.Prelude.{ℕ, ◌-◌, ◌+◌, List, [], ◌∷◌, ◌++◌, Bool, true, false, cond, nat_eq, nat_le, ◌&&◌, ◌||◌}
use Rattle.std.specs.Prelude.{take, Option, Some, None}
use Rattle.om_signs.specs.declared.limits.TheConstants.{MAX_INPUT}
use Rattle.om_lines.specs.Lines.{has_any}
use Rattle.om_pieces.specs.declared.seen.Seen.{Seen}
use Rattle.om_pieces.specs.declared.seen.Seen.TheVariants.{Blank}
use Rattle.om_pieces.specs.SeenOfLine.{seen_with, some_seen, end_seen, om_seen}

-- the byte of a line feed
abbrev pub line_feed : ℕ
line_feed = 10

-- the greatest number of bytes that are kept
abbrev pub most : ℕ
most = MAX_INPUT + 1

-- the piece in the making
pub record Making : Type 0 where
  -- its first bytes, without its last line
  pub kept : List ℕ
  -- the first bytes of its last line
  pub line : List ℕ
  -- what was seen of the last line
  pub seen : Seen
  -- how many `end` lines close a piece, and how many are still missing
  pub wanted : ℕ
  pub missing : ℕ
  -- whether a line before the last one has a word
  pub some : Bool

-- the first bytes, with one more byte or line
abbrev pub with_byte : List ℕ → ℕ → List ℕ
with_byte line b = take most (line ++ b ∷ [])

abbrev pub with_line : List ℕ → List ℕ → List ℕ
with_line kept line = take most (kept ++ line)

-- the making before any byte of a piece
abbrev pub nothing : ℕ → Making
nothing wanted = record { kept = []; line = []; seen = Blank; wanted = wanted; missing = wanted; some = false }

-- the last line is appended to the piece
abbrev pub lengthened : Making → Bool → ℕ → Making
lengthened m some missing =
    record {
      kept = with_line m.kept m.line;
      line = [];
      seen = Blank;
      wanted = m.wanted;
      missing = missing;
      some = some;
    }

-- the last line becomes the first one of the next piece
abbrev pub begun_anew : Making → Making
begun_anew m = record { kept = m.line; line = []; seen = Blank; wanted = m.wanted; missing = m.wanted; some = true }

-- the making after a line that is `end` alone, and the piece that is then complete, if no `end` line is missing
abbrev pub with_end_line : Making → Making × Option (List ℕ)
with_end_line m =
    cond (nat_le m.missing 1)
    (nothing m.wanted, Some (with_line m.kept m.line))
    (lengthened m true (m.missing - 1), None)

-- The making after the end of a line, and the piece that is then complete. A line that begins with `om` completes the
-- piece before it, if that has a word.
abbrev pub with_end : Making → Making × Option (List ℕ)
with_end m =
    cond (om_seen m.seen && m.some) (begun_anew m, Some m.kept)
    (cond (end_seen m.seen) (with_end_line m) (lengthened m (m.some || some_seen m.seen) m.missing, None))

-- the last line, with one more byte
abbrev pub with_more : Making → ℕ → Seen → Making
with_more m b seen =
    record {
      kept = m.kept;
      line = with_byte m.line b;
      seen = seen;
      wanted = m.wanted;
      missing = m.missing;
      some =
          m.some;
    }

-- the making after a byte, and the piece that is then complete
abbrev pub fed : Making → ℕ → Making × Option (List ℕ)
fed m b = cond (nat_eq b line_feed) (with_end (with_more m b m.seen)) (with_more m b (seen_with m.seen b), None)

-- the end of the input; a last line without a line feed is a line too
abbrev pub last_ended : Making → Making × Option (List ℕ)
last_ended m = cond (has_any m.line) (with_end m) (m, None)

-- what is left after the end of the input, if it is a piece
abbrev pub rest_of : Making → Option (List ℕ)
rest_of m = cond m.some (Some m.kept) None

-- the piece, if there is one, as a list
abbrev pub option_list : Option (List ℕ) → List (List ℕ)
option_list (Some piece) = piece ∷ []
option_list None = []

-- the pieces that are whole in these bytes, whatever bytes follow; of each, the first bytes
abbrev pub completed : Making → List ℕ → List (List ℕ)
completed m [] = []
completed m (b ∷ bs) = option_list ((fed m b).1) ++ completed ((fed m b).0) bs

-- the pieces that are made with these bytes up to the end of the input; of each, the first bytes
abbrev pub made : Making → List ℕ → List (List ℕ)
made m [] = option_list ((last_ended m).1) ++ option_list (rest_of ((last_ended m).0))
made m (b ∷ bs) = option_list ((fed m b).1) ++ made ((fed m b).0) bs
