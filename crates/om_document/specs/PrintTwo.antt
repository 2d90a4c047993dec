-- The form of a document in version 2.
--
-- Trusted: `print_two` gives exactly this.
use Rattle.std.specs.Prelude.{ℕ, List, [], ◌∷◌, ◌++◌, Bool, true, false, filter, map, codes, decimal, Contains}
use Rattle.std.specs.Prelude.{slice_index_or}
use Rattle.std.specs.List.{flat_map, range_with_len}
use Rattle.om_signs.specs.declared.raw_map.RawMap.{RawMap}
use Rattle.om_signs.specs.declared.sign.Sign.{Sign}
use Rattle.om_signs.specs.declared.sign.Sign.TheVariants.{Minus, Zero, Plus}
use Rattle.om_signs.specs.Sign.{opposite}
use Rattle.om_subsets.specs.Subsets.{rank_of}
use Rattle.om_subsets.specs.Reverse.{revlex_subsets}
use Rattle.om_document.specs.declared.document.Document.{Document}
use Rattle.om_document.specs.declared.body.Body.{Body}
use Rattle.om_document.specs.declared.body.Body.TheVariants.{Chirotope, Wiring, Points}
use Rattle.om_document.specs.Rows.{sorted, distinct}
use Rattle.om_document.specs.Members.{members_of, with_members}
use Rattle.om_document.specs.Print.{text_of, sign_lines, member_lines, spaced, kind_text, body_lines}

-- `e1`, `e2` and so on, for n elements
abbrev pub numbered_names : ℕ → List (List ℕ)
numbered_names n = map (λ k. 101 ∷ decimal k) (range_with_len 1 n)

-- names as they are printed: numbered ones if there are none
abbrev pub printed_names : ℕ → List (List ℕ) → List (List ℕ)
printed_names n [] = numbered_names n
printed_names n (w ∷ ws) = w ∷ ws

-- the values of a map in reverse lexicographic order of its sets
abbrev pub values_in_revlex : RawMap → List Sign
values_in_revlex m = map (λ s. slice_index_or m.signs (rank_of m.elements s) Zero) (revlex_subsets m.elements m.rank)

-- whether the first sign other than zero is plus, or there is none
abbrev pub begins_with_plus : List Sign → Bool
begins_with_plus [] = true
begins_with_plus (Minus ∷ xs) = false
begins_with_plus (Zero ∷ xs) = begins_with_plus xs
begins_with_plus (Plus ∷ xs) = true

-- one of each pair of opposite members, sorted
abbrev pub half_of : List (List Sign) → List (List Sign)
half_of ms = filter begins_with_plus (sorted ms)

-- members and the negative of each, without repetition
abbrev pub doubled : List (List Sign) → List (List Sign)
doubled ms = distinct (flat_map (λ x. x ∷ map opposite x ∷ []) ms)

-- the setting line of a body
abbrev pub setting_lines : Body → List (List ℕ)
setting_lines (Chirotope m) = codes "order revlex" ∷ []
setting_lines (Wiring bs) = []
setting_lines (Points ps) = []
setting_lines _ = codes "half" ∷ []

-- the lines of a body after these
abbrev pub body_lines_two : Body → List (List ℕ)
body_lines_two (Chirotope m) = sign_lines (values_in_revlex m)
body_lines_two (Wiring bs) = body_lines (Wiring bs)
body_lines_two (Points ps) = body_lines (Points ps)
body_lines_two b = member_lines (half_of (members_of b))

-- the lines of a document in version 2
abbrev pub printed_two_lines : Document → List (List ℕ)
printed_two_lines d =
    codes "om 2"
    ∷ kind_text d
    ∷ spaced (codes "names" ∷ printed_names d.elements d.names)
    ∷ (setting_lines d.body ++ body_lines_two d.body ++ codes "end" ∷ [])

-- the text of a document in version 2
abbrev pub printed_two : Document → List ℕ
printed_two d = text_of (printed_two_lines d)

-- the same body, with the members of a list in the order in which its text gives them
abbrev pub doubled_body : Body → Body
doubled_body b = with_members b (doubled (half_of (members_of b)))

-- the document that the text gives: this one, with the names that are printed
abbrev pub doubled_document : Document → Document
doubled_document d =
    record { elements = d.elements; body = doubled_body d.body; names = printed_names d.elements d.names }

-- the negative of each member of a list is a member; nothing is required of another body
abbrev pub IsClosedUnderNegation : Body → Type 0
IsClosedUnderNegation b = (x : List Sign) → Contains (members_of b) x → Contains (members_of b) (map opposite x)
