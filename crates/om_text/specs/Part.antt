-- A document at the front of an input.
--
-- Trusted: the contract of `parse_part` uses these definitions.
use Rattle.std.specs.Prelude.{ℕ, ◌≡◌, ◌≤◌, min, List, [], ◌∷◌, ◌++◌, length, take, drop}
use Rattle.om_document.specs.declared.document.Document.{Document}
use Rattle.om_lines.specs.Lines.{lines, words, end_line}
use Rattle.om_document.specs.Document.{IsDocument}
use Rattle.om_document.specs.Print.{text_of}

-- the last of the lines is an end line
pub record EndsWithEnd (ls : List (List ℕ)) : Type 0 where
  pub before : List (List ℕ)
  pub line : List ℕ
  pub lines : ls ≡ before ++ line ∷ []
  pub words : words line ≡ end_line

-- The first `count` lines of the bytes are a document with the value d, and the last of them is its end line. The
-- first `len` bytes are these lines with their line feeds, except that the last may have none. The other bytes are
-- the other lines.
pub record IsDocumentAtFront (bytes : List ℕ) (d : Document) (len count : ℕ) : Type 0 where
  pub within : count ≤ length (lines bytes)
  pub document : IsDocument (take count (lines bytes)) d
  pub last : EndsWithEnd (take count (lines bytes))
  pub size : len ≡ min (length bytes) (length (text_of (take count (lines bytes))))
  pub front : lines (take len bytes) ≡ take count (lines bytes)
  pub rest : lines (drop len bytes) ≡ drop count (lines bytes)
