-- The first line at fault, and its code.
--
-- Trusted: which line is returned for an input that is no document, and with which code.
use Rattle.std.specs.Prelude.{ℕ, ◌≡◌, ◌+◌, List, [], ◌∷◌, ◌++◌, Bool, true, false, cond, not, ◌&&◌, length, Option}
use Rattle.std.specs.Prelude.{Some, None, is_none, option_and_then}
use Rattle.std.specs.List.{list_all, list_any}
use Rattle.om_document.specs.declared.document.Document.{Document}
use Rattle.om_document.specs.declared.code.Code.{Code}
use Rattle.om_document.specs.declared.code.Code.TheVariants as code
use Rattle.om_document.specs.declared.version.Version.{Version}
use Rattle.om_document.specs.declared.version.Version.TheVariants.{One, Two}
use Rattle.om_document.specs.declared.setting.Setting.{Setting}
use Rattle.om_lines.specs.Lines.{words, wordful, is_line, end_line, first_word, Begins}
use Rattle.om_document.specs.Settings.{version_of, begins_as_setting, settings_of, settings_in, front_settings}
use Rattle.om_document.specs.Settings.{behind_settings}
use Rattle.om_document.specs.Document.{IsDocument, has_signs, has_length, has_blocks, has_numbers, filled, has_room}
use Rattle.om_document.specs.Document.{is_complete}
use Rattle.om_document.specs.Heading.{kind_of, heading, has_elements, has_rank, has_size, rank_of_body, values_of_body}

-- What a non-blank line is, given the non-blank lines before it. It may be the first line or the kind line. It may
-- be a line that begins as a setting line does, directly after the kind line of version 2 and the setting lines so
-- far. Otherwise it is a line in the body of a document after its earlier body lines, its end line, or a line after
-- that.
pub data Role : Type 0 where
  first : Role
  kind : Role
  setting : Document → List (List (List ℕ)) → Role
  body : Setting → Document → List (List (List ℕ)) → Role
  «end» : Setting → Document → List (List (List ℕ)) → Role
  after : Role

-- the role of a line after a kind line that opens d, after setting lines, and after the body's lines ls
abbrev pub role_in_body : Option (List (List ℕ) × Setting) → Document → List (List (List ℕ)) → List (List ℕ) → Role
role_in_body None d ls w = after
role_in_body (Some s) d ls w =
    cond (list_any (λ l. is_line l end_line) ls) after (cond (is_line w end_line) («end» s.1 d ls) (body s.1 d ls))

-- the role of a line after a kind line of version 2 that opens d, and after the lines ls
abbrev pub role_in_two : Document → List (List (List ℕ)) → List (List ℕ) → Role
role_in_two d ls w =
    cond (list_all begins_as_setting ls && begins_as_setting w)
    (setting d ls)
    (role_in_body (settings_of d (front_settings ls)) d (behind_settings ls) w)

-- the role of a line after the kind line, in each version
abbrev pub role_after_kind : Option Version → Option Document → List (List (List ℕ)) → List (List ℕ) → Role
role_after_kind (Some One) (Some d) ls w = role_in_body (settings_in One d []) d ls w
role_after_kind (Some Two) (Some d) ls w = role_in_two d ls w
role_after_kind _ _ ls w = after

-- the role of the line w after the non-blank lines ls
abbrev pub role : List (List (List ℕ)) → List (List ℕ) → Role
role [] w = first
role (v ∷ []) w = kind
role (v ∷ k ∷ ls) w = role_after_kind (version_of v) (heading k) ls w

-- The rows of the table of codes. Each gives its code if it holds.
abbrev pub when : Bool → Code → Option Code
when true c = Some c
when false c = None

-- the first line names no version
abbrev pub version : Role → List (List ℕ) → Option Code
version first w = when (is_none (version_of w)) code.Version
version _ w = None

-- the kind line names no kind
abbrev pub kind_row : Role → List (List ℕ) → Option Code
kind_row kind w = when (is_none (kind_of (first_word w))) code.Kind
kind_row _ w = None

-- the kind line doesn't have as many words as its kind requires, or it has a word that is no plain number
abbrev pub header : Role → List (List ℕ) → Option Code
header kind w = when (is_none (heading w)) code.Header
header _ w = None

-- the number of elements is out of range
abbrev pub elements : Role → List (List ℕ) → Option Code
elements kind w = option_and_then (λ d. when (not (has_elements d)) (code.Elements d.elements)) (heading w)
elements _ w = None

-- the rank is above the number of elements
abbrev pub rank : Role → List (List ℕ) → Option Code
rank kind w = option_and_then (λ d. when (not (has_rank d)) (code.Rank (rank_of_body d.body))) (heading w)
rank _ w = None

-- a map has more values than it may have
abbrev pub size : Role → List (List ℕ) → Option Code
size kind w = option_and_then (λ d. when (not (has_size d)) (code.Size (values_of_body d.body))) (heading w)
size _ w = None

-- a line that begins as a setting line does isn't allowed there
abbrev pub setting_row : Role → List (List ℕ) → Option Code
setting_row (setting d ls) w = when (is_none (settings_of d (ls ++ w ∷ []))) code.Setting
setting_row _ w = None

-- a line of a map or a list has a byte that is no sign
abbrev pub sign : Role → List (List ℕ) → Option Code
sign (body s d ls) w = when (not (has_signs d w)) code.Sign
sign _ w = None

-- a member has more or fewer signs than there are elements
abbrev pub length_row : Role → List (List ℕ) → Option Code
length_row (body s d ls) w = when (not (has_length d w)) code.Length
length_row _ w = None

-- a word of a line of a wiring is no block
abbrev pub block : Role → List (List ℕ) → Option Code
block (body s d ls) w = when (not (has_blocks d w)) code.Block
block _ w = None

-- a line of points hasn't exactly three coordinates
abbrev pub number : Role → List (List ℕ) → Option Code
number (body s d ls) w = when (not (has_numbers d w)) code.Number
number _ w = None

-- the line exceeds the greatest size of the body
abbrev pub many : Role → List (List ℕ) → Option Code
many (body s d ls) w = when (not (has_room (filled s d (ls ++ w ∷ [])))) code.Many
many _ w = None

-- the body is not complete at the end line
abbrev pub few : Role → List (List ℕ) → Option Code
few («end» s d ls) w = when (not (is_complete (filled s d ls))) code.Few
few _ w = None

-- a line follows the end line
abbrev pub after_row : Role → List (List ℕ) → Option Code
after_row after w = Some code.After
after_row _ w = None

-- the rows in the order of the table
abbrev pub table : Role → List (List ℕ) → List (Option Code)
table p w =
    version p w
    ∷ kind_row p w
    ∷ header p w
    ∷ elements p w
    ∷ rank p w
    ∷ size p w
    ∷ setting_row p w
    ∷ sign p w
    ∷ length_row p w
    ∷ block p w
    ∷ number p w
    ∷ many p w
    ∷ few p w
    ∷ after_row p w
    ∷ []

-- the first row that holds
abbrev pub first_of : List (Option Code) → Option Code
first_of [] = None
first_of (None ∷ rows) = first_of rows
first_of (Some c ∷ rows) = Some c

-- Line number L of the lines is the first at fault in a language, and c is its code. No list of the language begins
-- with the lines 1 to L, and some list of it begins with the lines before L. The end of the lines is the line after
-- the last.
pub data IsFaultIn (Language : List (List ℕ) → Type 0) (code_after : List (List ℕ) → List ℕ → Option Code) : List
    (List ℕ) → ℕ → Code → Type 0 where
  at_line : (before : List (List ℕ)) (line : List ℕ) (after : List (List ℕ)) (c : Code) → Begins Language before
      → (Begins Language (before ++ line ∷ []) → ⊥) → code_after before line ≡ Some c
      → IsFaultIn Language code_after (before ++ line ∷ after) (length before + 1) c
  at_end : (ls : List (List ℕ)) → Begins Language ls → (Language ls → ⊥)
      → IsFaultIn Language code_after ls (length ls + 1) code.Missing

-- lines that are a document
abbrev pub AreDocument : List (List ℕ) → Type 0
AreDocument ls = (d : Document) × IsDocument ls d

-- the code of a line at fault after the lines ls
abbrev pub code_after : List (List ℕ) → List ℕ → Option Code
code_after ls line = first_of (table (role (wordful ls) (words line)) (words line))

-- line L is the first at fault in a document, with the code c
abbrev pub IsFault : List (List ℕ) → ℕ → Code → Type 0
IsFault = IsFaultIn AreDocument code_after
