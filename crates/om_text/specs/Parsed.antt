-- What a reader returns unless memory runs out.
--
-- Trusted: the contracts of `parse` and `parse_part` use these definitions.
use Rattle.std.specs.Prelude.{ℕ, ◌≡◌, Result, Ok, Err}
use Rattle.om_document.specs.declared.code.Code.{Code}
use Rattle.om_text.specs.declared.parse_error.ParseError.{ParseError}
use Rattle.om_text.specs.declared.parse_error.ParseError.TheVariants as error

-- the result is this value, or this line with this code, unless memory ran out
abbrev pub IsAnswerUnlessMemory : {A : Type 0} → Result A ParseError → Result A (ℕ × Code) → Type 0
IsAnswerUnlessMemory (Ok x) read = read ≡ Ok x
IsAnswerUnlessMemory (Err error.Memory) read = Unit {0}
IsAnswerUnlessMemory (Err (error.Line l c)) read = read ≡ Err (l, c)

-- if a line is returned, P holds of the line and its code
abbrev pub IfLine : {A : Type 0} → Result A ParseError → (ℕ → Code → Type 0) → Type 0
IfLine (Err (error.Line l c)) P = P l c
IfLine _ P = Unit {0}
