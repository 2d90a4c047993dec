-- Documents, in terms of whole lists of lines.
--
-- Trusted: this is what a document is, with its value. Nothing here says how one is read.
use Rattle.std.specs.Prelude.{ℕ, ◌≡◌, List, [], ◌∷◌, ◌++◌, Bool, true, nat_eq, nat_le, ◌&&◌, length, map, Some}
use Rattle.std.specs.Prelude.{is_some}
use Rattle.std.specs.List.{list_all, concat, flat_map}
use Rattle.om_signs.specs.declared.limits.TheConstants.{MAX_MEMBERS, MAX_BLOCKS}
use Rattle.om_signs.specs.declared.sign.Sign.{Sign}
use Rattle.om_signs.specs.Sign.{opposite}
use Rattle.om_subsets.specs.Subsets.{choose}
use Rattle.om_document.specs.declared.document.Document.{Document}
use Rattle.om_document.specs.declared.body.Body.{Body}
use Rattle.om_document.specs.declared.body.Body.TheVariants.{Chirotope, Wiring, Points}
use Rattle.om_lines.specs.Lines.{wordful, end_line}
use Rattle.om_lines.specs.Words.{is_sign, sign_of_byte}
use Rattle.om_document.specs.Heading.{heading, has_elements, has_rank, has_size}
use Rattle.om_document.specs.declared.version.Version.{Version}
use Rattle.om_document.specs.declared.setting.Setting.{Setting}
use Rattle.om_document.specs.declared.setting.Setting.TheVariants.{Half}
use Rattle.om_document.specs.Settings.{version_of, settings_in, finished}
use Rattle.om_document.specs.Rows.{distinct}
use Rattle.om_document.specs.Members.{members_of, with_members}
use Rattle.om_document.specs.Blocks.{are_blocks, blocks_on}
use Rattle.om_document.specs.Points.{point_of, point_on}

-- whether the words of a line, joined, are bytes of signs
abbrev pub are_signs : List (List ℕ) → Bool
are_signs w = list_all is_sign (concat w)

-- the signs of a line's words, joined
abbrev pub signs_of_line : List (List ℕ) → List Sign
signs_of_line w = map sign_of_byte (concat w)

-- whether a line has no bytes but signs, if this kind of body requires signs
abbrev pub has_signs_in : Body → List (List ℕ) → Bool
has_signs_in (Wiring bs) w = true
has_signs_in (Points ps) w = true
has_signs_in _ w = are_signs w

-- the words of a line of a map or a list are signs
abbrev pub has_signs : Document → List (List ℕ) → Bool
has_signs d w = has_signs_in d.body w

-- whether a line has the length that this kind of body requires
abbrev pub has_length_in : Body → ℕ → List (List ℕ) → Bool
has_length_in (Chirotope m) n w = true
has_length_in (Wiring bs) n w = true
has_length_in (Points ps) n w = true
has_length_in _ n w = nat_eq (length (concat w)) n

-- a line of a list has as many signs as there are elements
abbrev pub has_length : Document → List (List ℕ) → Bool
has_length d w = has_length_in d.body d.elements w

-- whether the words of a line are blocks, if this kind of body requires blocks
abbrev pub has_blocks_in : Body → List (List ℕ) → Bool
has_blocks_in (Wiring bs) w = are_blocks w
has_blocks_in _ w = true

-- each word of a line of a wiring is a block
abbrev pub has_blocks : Document → List (List ℕ) → Bool
has_blocks d w = has_blocks_in d.body w

-- whether a line is a point, if this kind of body requires points
abbrev pub has_numbers_in : Body → List (List ℕ) → Bool
has_numbers_in (Points ps) w = is_some (point_of w)
has_numbers_in _ w = true

-- a line of points has exactly three coordinates
abbrev pub has_numbers : Document → List (List ℕ) → Bool
has_numbers d w = has_numbers_in d.body w

-- a line that is allowed in the body
abbrev pub is_body_line : Document → List (List ℕ) → Bool
is_body_line d w = has_signs d w && has_length d w && has_blocks d w && has_numbers d w

-- the signs of all lines, joined
abbrev pub all_signs : List (List (List ℕ)) → List Sign
all_signs body = map sign_of_byte (concat (map concat body))

-- the members that a line gives: the sign vector of its signs, and after `half` its negative too
abbrev pub members_of_line : Setting → List (List ℕ) → List (List Sign)
members_of_line Half w = signs_of_line w ∷ map opposite (signs_of_line w) ∷ []
members_of_line _ w = signs_of_line w ∷ []

-- The body that lines give. A map has its values in the order of the lines, and so have blocks and points. A list
-- has its distinct members in the order of their first lines.
abbrev pub filled_body : Setting → Body → List (List (List ℕ)) → Body
filled_body s (Chirotope m) body = Chirotope (record { rank = m.rank; elements = m.elements; signs = all_signs body })
filled_body s (Wiring _) body = Wiring (flat_map blocks_on body)
filled_body s (Points _) body = Points (map point_on body)
filled_body s b body = with_members b (distinct (flat_map (members_of_line s) body))

-- the document that a heading and the lines of its body give, with its values in the order of the lines
abbrev pub filled : Setting → Document → List (List (List ℕ)) → Document
filled s d body = record { elements = d.elements; body = filled_body s d.body body; names = d.names }

-- how many values, blocks, points or members a body has
abbrev pub size_of : Body → ℕ
size_of (Chirotope m) = length m.signs
size_of (Wiring bs) = length bs
size_of (Points ps) = length ps
size_of b = length (members_of b)

-- how many a body on n elements may have
abbrev pub room_of : Body → ℕ → ℕ
room_of (Chirotope m) n = choose m.elements m.rank
room_of (Wiring bs) n = MAX_BLOCKS
room_of (Points ps) n = n
room_of _ n = MAX_MEMBERS

-- whether the body of a document has no more
abbrev pub has_room : Document → Bool
has_room d = nat_le (size_of d.body) (room_of d.body d.elements)

-- whether a body on n elements may end: a map has all its values, there is a point for each element, and a list or
-- a wiring may always end
abbrev pub is_complete_body : Body → ℕ → Bool
is_complete_body (Chirotope m) n = nat_eq (length m.signs) (choose m.elements m.rank)
is_complete_body (Points ps) n = nat_eq (length ps) n
is_complete_body _ n = true

-- whether the body of a document may end
abbrev pub is_complete : Document → Bool
is_complete d = is_complete_body d.body d.elements

-- The lines, as their words, give the document d. They are a version line, a kind line with its numbers in range,
-- setting lines that this version and kind allow, lines of a body within the limits, and the end line.
pub record IsSpelled (ls : List (List (List ℕ))) (d : Document) : Type 0 where
  pub first_line : List (List ℕ)
  pub version : Version
  pub kind_line : List (List ℕ)
  pub head : Document
  pub settings : List (List (List ℕ))
  pub names : List (List ℕ)
  pub setting : Setting
  pub body : List (List (List ℕ))
  pub lines : ls ≡ first_line ∷ kind_line ∷ settings ++ body ++ end_line ∷ []
  pub numbered : version_of first_line ≡ Some version
  pub heading : heading kind_line ≡ Some head
  pub elements : has_elements head ≡ true
  pub rank : has_rank head ≡ true
  pub size : has_size head ≡ true
  pub set : settings_in version head settings ≡ Some (names, setting)
  pub each : list_all (is_body_line head) body ≡ true
  pub room : has_room (filled setting head body) ≡ true
  pub complete : is_complete (filled setting head body) ≡ true
  pub value : d ≡ finished names setting (filled setting head body)

-- the lines are a document, and d is its value
abbrev pub IsDocument : List (List ℕ) → Document → Type 0
IsDocument ls d = IsSpelled (wordful ls) d
