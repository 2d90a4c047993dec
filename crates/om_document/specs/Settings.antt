-- The versions of the format, and the setting lines of version 2.
--
-- Trusted: these definitions say what a document is.
use Rattle.std.specs.Prelude.{ℕ, List, [], ◌∷◌, Bool, cond, ◌&&◌, ◌||◌, map, codes, Option, Some, None, bytes_eq}
use Rattle.std.specs.Prelude.{option_map, slice_index_or}
use Rattle.om_signs.specs.declared.raw_map.RawMap.{RawMap}
use Rattle.om_signs.specs.declared.sign.Sign.{Sign}
use Rattle.om_signs.specs.declared.sign.Sign.TheVariants.{Zero}
use Rattle.om_subsets.specs.Subsets.{all_subsets}
use Rattle.om_subsets.specs.Reverse.{revlex_rank_of}
use Rattle.om_document.specs.declared.document.Document.{Document}
use Rattle.om_document.specs.declared.body.Body.{Body}
use Rattle.om_document.specs.declared.body.Body.TheVariants.{Chirotope, Wiring, Points}
use Rattle.om_document.specs.declared.version.Version.{Version}
use Rattle.om_document.specs.declared.version.Version.TheVariants.{One, Two}
use Rattle.om_document.specs.declared.setting.Setting.{Setting}
use Rattle.om_document.specs.declared.setting.Setting.TheVariants.{Plain, Revlex, Half}
use Rattle.om_lines.specs.Lines.{is_line, first_word}
use Rattle.om_document.specs.Names.{are_names}

-- the words of the first line in version 1, and in version 2
abbrev pub version_one_line : List (List ℕ)
version_one_line = codes "om" ∷ codes "1" ∷ []

abbrev pub version_two_line : List (List ℕ)
version_two_line = codes "om" ∷ codes "2" ∷ []

-- the version that a first line names
abbrev pub version_of : List (List ℕ) → Option Version
version_of w = cond (is_line w version_one_line) (Some One) (cond (is_line w version_two_line) (Some Two) None)

-- whether a line begins as a setting line does
abbrev pub begins_as_setting : List (List ℕ) → Bool
begins_as_setting w = bytes_eq (first_word w) (codes "names") || bytes_eq (first_word w) (codes "order")
    || bytes_eq (first_word w) (codes "half")

-- the words after the first
abbrev pub other_words : List (List ℕ) → List (List ℕ)
other_words [] = []
other_words (w ∷ ws) = ws

-- `names` and n different names
abbrev pub is_names_line : ℕ → List (List ℕ) → Bool
is_names_line n w = bytes_eq (first_word w) (codes "names") && are_names n (other_words w)

-- What a setting line other than `names` says about the lines of this kind of body. It gives the order of the
-- values of a map, or it says that each line of a list gives two members.
abbrev pub setting_in : Body → List (List ℕ) → Option Setting
setting_in (Chirotope m) w =
    cond (is_line w (codes "order" ∷ codes "lex" ∷ [])) (Some Plain)
    (cond (is_line w (codes "order" ∷ codes "revlex" ∷ [])) (Some Revlex) None)
setting_in (Wiring bs) w = None
setting_in (Points ps) w = None
setting_in _ w = cond (is_line w (codes "half" ∷ [])) (Some Half) None

-- what at most one such line says; without one the lines are read as in version 1
abbrev pub set_by : Body → List (List (List ℕ)) → Option Setting
set_by b [] = Some Plain
set_by b (w ∷ []) = setting_in b w
set_by b (w ∷ v ∷ ls) = None

-- The names and the setting that setting lines give, after a kind line that opens d. A `names` line comes first, if
-- there is one. Without one there are no names.
abbrev pub settings_of : Document → List (List (List ℕ)) → Option (List (List ℕ) × Setting)
settings_of d [] = Some ([], Plain)
settings_of d (w ∷ ls) =
    cond (is_names_line d.elements w)
    (option_map (λ s. (other_words w, s)) (set_by d.body ls))
    (option_map (λ s. ([], s)) (set_by d.body (w ∷ ls)))

-- the names and the setting in each version: version 1 has no setting lines
abbrev pub settings_in : Version → Document → List (List (List ℕ)) → Option (List (List ℕ) × Setting)
settings_in One d [] = Some ([], Plain)
settings_in One d (w ∷ ls) = None
settings_in Two d ls = settings_of d ls

-- values in reverse lexicographic order of the sets, put into lexicographic order
abbrev pub values_from_revlex : RawMap → List Sign
values_from_revlex m = map (λ s. slice_index_or m.signs (revlex_rank_of s) Zero) (all_subsets m.elements m.rank)

-- a body whose values are in the order that a setting names, put into lexicographic order
abbrev pub in_lexicographic_order : Setting → Body → Body
in_lexicographic_order Revlex (Chirotope m) =
    Chirotope (record { rank = m.rank; elements = m.elements; signs = values_from_revlex m })
in_lexicographic_order _ b = b

-- the document with these names, its body in lexicographic order
abbrev pub finished : List (List ℕ) → Setting → Document → Document
finished names s d = record { elements = d.elements; body = in_lexicographic_order s d.body; names = names }

-- the lines in front that begin as setting lines do
abbrev pub front_settings : List (List (List ℕ)) → List (List (List ℕ))
front_settings [] = []
front_settings (w ∷ ls) = cond (begins_as_setting w) (w ∷ front_settings ls) []

-- the lines after these
abbrev pub behind_settings : List (List (List ℕ)) → List (List (List ℕ))
behind_settings [] = []
behind_settings (w ∷ ls) = cond (begins_as_setting w) (behind_settings ls) (w ∷ ls)
