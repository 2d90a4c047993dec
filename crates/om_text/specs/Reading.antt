-- Reading documents line by line: what the reader's loop follows. Not part of the definition of documents.
use Rattle.std.specs.Prelude.{ℕ, List, [], ◌∷◌, ◌++◌, ◌&&◌, Bool, true, false, cond, map, Option, Some, None, Result}
use Rattle.std.specs.Prelude.{Ok, Err, is_none, nat_le}
use Rattle.std.specs.List.{list_any}
use Rattle.om_signs.specs.declared.sign.Sign.{Sign}
use Rattle.om_signs.specs.Sign.{opposite}
use Rattle.om_document.specs.declared.document.Document.{Document}
use Rattle.om_document.specs.declared.body.Body.{Body}
use Rattle.om_document.specs.declared.body.Body.TheVariants.{Chirotope, Wiring, Points}
use Rattle.om_document.specs.declared.code.Code.{Code}
use Rattle.om_document.specs.declared.code.Code.TheVariants as code
use Rattle.om_text.specs.declared.state.State.{State}
use Rattle.om_text.specs.declared.state.State.TheVariants.{Start, Versioned, Open, Closed}
use Rattle.om_text.specs.declared.draft.Draft.{Draft}
use Rattle.om_text.specs.declared.stage.Stage.{Stage}
use Rattle.om_text.specs.declared.stage.Stage.TheVariants.{Names, Choice, Full, Body as InBody}
use Rattle.om_document.specs.declared.setting.Setting.{Setting}
use Rattle.om_document.specs.declared.setting.Setting.TheVariants.{Plain, Half}
use Rattle.om_document.specs.declared.version.Version.{Version}
use Rattle.om_document.specs.declared.version.Version.TheVariants.{One, Two}
use Rattle.om_text.specs.Steps.{if_passed, advance_by, outcome_by}
use Rattle.om_document.specs.Rows.{same_row}
use Rattle.om_document.specs.Members.{members_of, with_members}
use Rattle.om_document.specs.Blocks.{blocks_on}
use Rattle.om_document.specs.Points.{point_on}
use Rattle.om_lines.specs.Lines.{is_line, end_line, first_word}
use Rattle.om_document.specs.Settings.{version_of, begins_as_setting, other_words, is_names_line, setting_in, finished}
use Rattle.om_document.specs.Document.{signs_of_line, has_signs_in, has_length_in, has_blocks_in, has_numbers_in}
use Rattle.om_document.specs.Document.{size_of, room_of, filled, is_complete}
use Rattle.om_document.specs.Heading.{kind_of, heading, has_elements, has_rank, has_size, rank_of_body, values_of_body}

-- the members with one more, unless it is already there
abbrev pub with_member : List (List Sign) → List Sign → List (List Sign)
with_member ms x = cond (list_any (λ y. same_row y x) ms) ms (ms ++ x ∷ [])

-- the members with others added in turn, each unless it is already there
abbrev pub with_each : List (List Sign) → List (List Sign) → List (List Sign)
with_each ms [] = ms
with_each ms (x ∷ xs) = with_each (with_member ms x) xs

-- the members that a line with this member gives
abbrev pub members_on : Setting → List Sign → List (List Sign)
members_on Half x = x ∷ map opposite x ∷ []
members_on _ x = x ∷ []

-- the members with those of one more line
abbrev pub with_line_members : Setting → List (List Sign) → List (List ℕ) → List (List Sign)
with_line_members s ms w = with_each ms (members_on s (signs_of_line w))

-- a body with one more line
abbrev pub added_body : Setting → Body → List (List ℕ) → Body
added_body s (Chirotope m) w =
    Chirotope (record { rank = m.rank; elements = m.elements; signs = m.signs ++ signs_of_line w })
added_body s (Wiring bs) w = Wiring (bs ++ blocks_on w)
added_body s (Points ps) w = Points (ps ++ point_on w ∷ [])
added_body s b w = with_members b (with_line_members s (members_of b) w)

-- the tests of one more line of a body on n elements, each beside the code of a line that fails it
abbrev pub line_tests : Setting → ℕ → Body → List (List ℕ) → List (Bool × Code)
line_tests s n b w =
    (has_signs_in b w, code.Sign)
    ∷ (has_length_in b n w, code.Length)
    ∷ (has_blocks_in b w, code.Block)
    ∷ (has_numbers_in b w, code.Number)
    ∷ (nat_le (size_of (added_body s b w)) (room_of (added_body s b w) n), code.Many)
    ∷ []

-- a document with one more line in its body
abbrev pub added_document : Setting → Document → List (List ℕ) → Document
added_document s d w = record { elements = d.elements; body = added_body s d.body w; names = d.names }

-- a draft with one more line in its body
abbrev pub added : Draft → List (List ℕ) → Draft
added d w = record { document = added_document d.setting d.document w; setting = d.setting; stage = InBody }

-- which setting lines may come after the kind line
abbrev pub first_stage : Version → Stage
first_stage One = InBody
first_stage Two = Names

-- the draft of a document with these names
abbrev pub draft_of : List (List ℕ) → Setting → Document → Stage → Draft
draft_of names s d g =
    record { document = record { elements = d.elements; body = d.body; names = names }; setting = s; stage = g }

-- the draft that a kind line opens
abbrev pub first_draft : Version → Document → Draft
first_draft v d = draft_of [] Plain (filled Plain d []) (first_stage v)

-- the state that a heading opens, if its numbers are in range
abbrev pub in_range : Version → Document → Result State Code
in_range v d =
    if_passed
    ((has_elements d, code.Elements d.elements)
    ∷ (has_rank d, code.Rank (rank_of_body d.body))
    ∷ (has_size d, code.Size (values_of_body d.body))
    ∷ []) (Open (first_draft v d))

-- the state that a kind line opens
abbrev pub with_heading : Version → Option Document → Result State Code
with_heading v None = Err code.Header
with_heading v (Some d) = in_range v d

-- the state after the kind line
abbrev pub after_kind : Version → List (List ℕ) → Result State Code
after_kind v w = cond (is_none (kind_of (first_word w))) (Err code.Kind) (with_heading v (heading w))

-- whether a line that begins as a setting line does must be a setting line
abbrev pub takes_settings : Stage → Bool
takes_settings InBody = false
takes_settings _ = true

-- a draft with these names
abbrev pub with_names : Draft → List (List ℕ) → Draft
with_names d ws = draft_of ws d.setting d.document Choice

-- a draft with what an `order` or `half` line says
abbrev pub with_setting : Draft → Option Setting → Result State Code
with_setting d (Some s) = Ok (Open (record { document = d.document; setting = s; stage = Full }))
with_setting d None = Err code.Setting

-- the state after a line that may be an `order` or `half` line
abbrev pub after_choice : Draft → List (List ℕ) → Result State Code
after_choice d w = with_setting d (setting_in d.document.body w)

-- the state after a line that may be any setting line
abbrev pub after_names : Draft → List (List ℕ) → Result State Code
after_names d w = cond (is_names_line d.document.elements w) (Ok (Open (with_names d (other_words w))))
    (after_choice d w)

-- the state after a line that begins as a setting line does, depending on those still allowed
abbrev pub after_setting : Stage → Draft → List (List ℕ) → Result State Code
after_setting Names d w = after_names d w
after_setting Choice d w = after_choice d w
after_setting _ d w = Err code.Setting

-- the state after a body line
abbrev pub after_body : Draft → List (List ℕ) → Result State Code
after_body d w = if_passed (line_tests d.setting d.document.elements d.document.body w) (Open (added d w))

-- the document of a draft that has all its lines
abbrev pub finished_draft : Draft → Document
finished_draft d = finished d.document.names d.setting d.document

-- the state after the end line
abbrev pub after_end : Draft → Result State Code
after_end d = if_passed ((is_complete d.document, code.Few) ∷ []) (Closed (finished_draft d))

-- the state after a line of a document that is still open
abbrev pub open_step : Draft → List (List ℕ) → Result State Code
open_step d w = cond (takes_settings d.stage && begins_as_setting w) (after_setting d.stage d w)
    (cond (is_line w end_line) (after_end d) (after_body d w))

-- the state after a first line that names this version
abbrev pub with_version : Option Version → Result State Code
with_version (Some v) = Ok (Versioned v)
with_version None = Err code.Version

-- the state after one more non-blank line
abbrev pub step : State → List (List ℕ) → Result State Code
step Start w = with_version (version_of w)
step (Versioned v) w = after_kind v w
step (Open d) w = open_step d w
step (Closed d) w = Err code.After

-- the document, once its end line is read
abbrev pub value_of : State → Option Document
value_of (Closed d) = Some d
value_of _ = None

-- whether the end line is read
abbrev pub is_closed : State → Bool
is_closed (Closed d) = true
is_closed _ = false

-- the state after any line
abbrev pub advance : State → List ℕ → Result State Code
advance = advance_by step

-- what the lines ls spell, from a state after n lines: a document, or a line with its code
abbrev pub outcome : State → ℕ → List (List ℕ) → Result Document (ℕ × Code)
outcome = outcome_by step value_of
