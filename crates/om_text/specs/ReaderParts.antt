-- What the parts of the reader's code do with one more line. Not part of the definition of documents.
use Rattle.std.specs.Prelude.{ℕ, ℤ, ◌≡◌, ◌≢◌, ◌≤◌, List, [], ◌∷◌, ◌++◌, cond, nat_eq, nat_le, Bool, true, Option, Some}
use Rattle.std.specs.Prelude.{None, Result, Ok, Err, length}
use Rattle.std.specs.List.{concat}
use Rattle.om_signs.specs.declared.limits.TheConstants.{MAX_ELEMENTS, MAX_MEMBERS}
use Rattle.om_signs.specs.declared.block.Block.{Block}
use Rattle.om_signs.specs.declared.raw_map.RawMap.{RawMap}
use Rattle.om_subsets.specs.Subsets.{choose}
use Rattle.om_signs.specs.declared.sign.Sign.{Sign}
use Rattle.om_document.specs.declared.document.Document.{Document}
use Rattle.om_document.specs.declared.body.Body.{Body}
use Rattle.om_document.specs.declared.body.Body.TheVariants.{Chirotope}
use Rattle.om_document.specs.declared.code.Code.{Code}
use Rattle.om_document.specs.declared.code.Code.TheVariants as code
use Rattle.om_text.specs.declared.refusal.Refusal.{Refusal}
use Rattle.om_text.specs.declared.refusal.Refusal.TheVariants as refusal
use Rattle.om_text.specs.declared.state.State.{State}
use Rattle.om_text.specs.declared.state.State.TheVariants.{Start, Open}
use Rattle.om_text.specs.declared.parse_error.ParseError.{ParseError}
use Rattle.om_text.specs.declared.parse_error.ParseError.TheVariants as error
use Rattle.om_document.specs.declared.setting.Setting.{Setting}
use Rattle.om_text.specs.Fault.{IsFault}
use Rattle.om_text.specs.Part.{IsDocumentAtFront}
use Rattle.om_text.specs.Steps.{if_passed}
use Rattle.om_text.specs.Reading.{with_line_members, added_body, line_tests, outcome}
use Rattle.om_lines.specs.Lines.{lines}
use Rattle.om_document.specs.Blocks.{are_blocks, blocks_on}
use Rattle.om_document.specs.Document.{are_signs}
use Rattle.om_document.specs.Points.{coordinate}

-- a part of the reader returns this value, or refuses with this code, unless memory ran out
abbrev pub IsStepUnlessMemory : {A : Type 0} → Result A Refusal → Result A Code → Type 0
IsStepUnlessMemory (Ok x) read = read ≡ Ok x
IsStepUnlessMemory (Err refusal.Memory) read = Unit {0}
IsStepUnlessMemory (Err (refusal.Line c)) read = read ≡ Err c

-- how many signs the words of a line have, if all their bytes are those of signs
abbrev pub sign_count : List (List ℕ) → Option ℕ
sign_count w = cond (are_signs w) (Some (length (concat w))) None

-- a coordinate, if there is one, together with the words after it
abbrev pub with_rest : List (List ℕ) → Option ℤ → Option (ℤ × List (List ℕ))
with_rest w (Some x) = Some (x, w)
with_rest w None = None

-- the coordinate that the first of the words of a line spells, together with the words after it
abbrev pub first_coordinate : List (List ℕ) → Option (ℤ × List (List ℕ))
first_coordinate [] = None
first_coordinate (v ∷ w) = with_rest w (coordinate v)

-- the members of a list, if they are no more than allowed
abbrev pub members_within_limit : List (List Sign) → Result (List (List Sign)) Code
members_within_limit ms = if_passed ((nat_le (length ms) MAX_MEMBERS, code.Many) ∷ []) ms

-- the tests of one more line of a list on n elements, each beside the code of a line that fails it
abbrev pub list_tests : Setting → ℕ → List (List Sign) → List (List ℕ) → List (Bool × Code)
list_tests s n ms w =
    (are_signs w, code.Sign)
    ∷ (nat_eq (length (concat w)) n, code.Length)
    ∷ (nat_le (length (with_line_members s ms w)) MAX_MEMBERS, code.Many)
    ∷ []

-- the members of a list on n elements with those of one more line
abbrev pub members_with_line : Setting → ℕ → List (List Sign) → List (List ℕ) → Result (List (List Sign)) Code
members_with_line s n ms w = if_passed (list_tests s n ms w) (with_line_members s ms w)

-- blocks with those of a line
abbrev pub blocks_with_line : List Block → List (List ℕ) → Result (List Block) Code
blocks_with_line bs w = if_passed ((are_blocks w, code.Block) ∷ []) (bs ++ blocks_on w)

-- a body on n elements with one more line
abbrev pub body_with_line : Setting → ℕ → Body → List (List ℕ) → Result Body Code
body_with_line s n b w = if_passed (line_tests s n b w) (added_body s b w)

-- the numbers of a map are in range
pub record IsMapInRange (m : RawMap) : Type 0 where
  pub elements : m.elements ≤ MAX_ELEMENTS
  pub rank : m.rank ≤ m.elements

-- the numbers of the map that a body is are in range; nothing is required of another body
abbrev pub IsBodyInRange : Body → Type 0
IsBodyInRange (Chirotope m) = IsMapInRange m
IsBodyInRange _ = Unit {0}

-- the numbers of the heading are in range
pub record IsDocumentInRange (d : Document) : Type 0 where
  pub low : 1 ≤ d.elements
  pub high : d.elements ≤ MAX_ELEMENTS
  pub body : IsBodyInRange d.body

-- the numbers of the heading read so far are in range
abbrev pub IsStateInRange : State → Type 0
IsStateInRange (Open d) = IsDocumentInRange d.document
IsStateInRange _ = Unit {0}

-- whether a map has a value for each set of its rank; nothing is required of another body
abbrev pub has_all_values : Body → Bool
has_all_values (Chirotope m) = nat_eq (length m.signs) (choose m.elements m.rank)
has_all_values _ = true

-- why a line with this number can't be read
abbrev pub fault_at : ℕ → Refusal → ParseError
fault_at n refusal.Memory = error.Memory
fault_at n (refusal.Line c) = error.Line n c

-- what the reader's loop returns if it continues to the end of the bytes: the outcome of all their lines, unless
-- memory ran out
abbrev pub IsOutcomeOfAllLines : List ℕ → Result (Document × ℕ × ℕ) ParseError → Type 0
IsOutcomeOfAllLines bytes (Ok r) = outcome Start 0 (lines bytes) ≡ Ok r.0
IsOutcomeOfAllLines bytes (Err error.Memory) = Unit {0}
IsOutcomeOfAllLines bytes (Err (error.Line l c)) = outcome Start 0 (lines bytes) ≡ Err (l, c)

-- what it returns if it stops after the end line: the document at the front of the bytes, or their first fault
-- other than `After`, unless memory ran out
abbrev pub IsDocumentAtFrontOrFault : List ℕ → Result (Document × ℕ × ℕ) ParseError → Type 0
IsDocumentAtFrontOrFault bytes (Ok r) = IsDocumentAtFront bytes r.0 r.1 r.2
IsDocumentAtFrontOrFault bytes (Err error.Memory) = Unit {0}
IsDocumentAtFrontOrFault bytes (Err (error.Line l c)) = IsFault (lines bytes) l c × (c ≢ code.After)
