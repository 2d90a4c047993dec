-- A body and one more line of it, kind by kind.
--
-- Main results: filled_added, room_before, room_empty, line_not_end
use Rattle.std.proofs.Common.{◌≡◌, ℕ, ◌≤◌, List, [], ◌∷◌, ◌++◌, true, false, ◌&&◌, inl, inr, refl, sym, ap, ◌∙◌, arith}
use Rattle.std.proofs.Common.{length-append, append_assoc, append-nil, map}
use Rattle.std.specs.Prelude.{nat_le}
use Rattle.std.specs.List.{concat, flat_map}
use Rattle.std.proofs.lemmas.List.{map-append}
use Rattle.std.proofs.lemmas.Bool.{leb-true, le-leb, cases_Bool, and_parts}
use Rattle.std.proofs.lemmas.List.Concat.{flat_map-append}
use Rattle.std.proofs.lemmas.List.Folds.{concat-append}
use Rattle.std.proofs.Math.Dec.{leb-zero}
use Rattle.om_subsets.specs.Subsets.{choose}
use Rattle.om_document.specs.declared.document.Document.{Document}
use Rattle.om_document.specs.declared.body.Body.{Body}
use Rattle.om_document.specs.declared.body.Body.TheVariants.{Chirotope, Wiring, Points}
use Rattle.om_lines.specs.Words.{sign_of_byte}
use Rattle.om_document.specs.Rows.{distinct}
use Rattle.om_document.specs.Members.{members_of, with_members}
use Rattle.om_document.specs.Blocks.{blocks_on}
use Rattle.om_document.specs.Points.{point_on}
use Rattle.om_document.specs.declared.setting.Setting.{Setting}
use Rattle.om_document.specs.declared.setting.Setting.TheVariants.{Plain, Revlex, Half}
use Rattle.om_lines.specs.Lines.{is_line, end_line}
use Rattle.om_lines.proofs.WordLines.{is_line-Decides}
use Rattle.om_document.specs.Document.{are_signs, signs_of_line, members_of_line, all_signs, filled_body, filled}
use Rattle.om_document.specs.Document.{size_of, room_of, has_signs_in, has_length_in, has_blocks_in, has_numbers_in}
use Rattle.om_document.specs.Document.{has_room}
use Rattle.om_text.specs.Reading.{members_on, with_line_members, added_body}
use Rattle.om_text.proofs.Distinct.{distinct-each, with_each_grows}

-- a line of signs isn't the end line
pub signs_not_end : (w : List (List ℕ)) → are_signs w ≡ true → is_line w end_line ≡ false
signs_not_end w h = elim (cases_Bool (is_line w end_line)) [
  | inl e ↦ let q : w ≡ end_line = (is_line-Decides w end_line).0 e in
      let bad = rw q at h in cc
  | inr n ↦ n
]

-- nor is any line of a body
pub line_not_end : (b : Body) (n : ℕ) (w : List (List ℕ))
    → (has_signs_in b w && has_length_in b n w && has_blocks_in b w && has_numbers_in b w) ≡ true
    → is_line w end_line ≡ false
line_not_end (Wiring bs) n w h = elim (cases_Bool (is_line w end_line)) [
  | inl e ↦ let q : w ≡ end_line = (is_line-Decides w end_line).0 e in
      let bad = rw q at h in cc
  | inr n ↦ n
]
line_not_end (Points ps) n w h = elim (cases_Bool (is_line w end_line)) [
  | inl e ↦ let q : w ≡ end_line = (is_line-Decides w end_line).0 e in
      let bad = rw q at h in cc
  | inr n ↦ n
]
line_not_end (Chirotope m) n w h =
    signs_not_end w
    (and_parts (are_signs w) true
    (and_parts (are_signs w && true) true (and_parts (are_signs w && true && true) true h).0).0).0
line_not_end b n w h =
    signs_not_end w
    (and_parts (are_signs w) (has_length_in b n w)
    (and_parts (are_signs w && has_length_in b n w) true
    (and_parts (are_signs w && has_length_in b n w && true) true h).0).0).0

pub has_signs_filled : (s : Setting) (b : Body) (ls : List (List (List ℕ))) (w : List (List ℕ))
    → has_signs_in (filled_body s b ls) w ≡ has_signs_in b w
has_signs_filled s (Chirotope m) ls w = refl
has_signs_filled s (Points ps) ls w = refl
has_signs_filled s _ ls w = refl

pub has_numbers_filled : (s : Setting) (b : Body) (ls : List (List (List ℕ))) (w : List (List ℕ))
    → has_numbers_in (filled_body s b ls) w ≡ has_numbers_in b w
has_numbers_filled s (Chirotope m) ls w = refl
has_numbers_filled s (Points ps) ls w = refl
has_numbers_filled s _ ls w = refl

pub has_blocks_filled : (s : Setting) (b : Body) (ls : List (List (List ℕ))) (w : List (List ℕ))
    → has_blocks_in (filled_body s b ls) w ≡ has_blocks_in b w
has_blocks_filled s (Chirotope m) ls w = refl
has_blocks_filled s (Points ps) ls w = refl
has_blocks_filled s _ ls w = refl

pub has_length_filled : (s : Setting) (b : Body) (ls : List (List (List ℕ))) (n : ℕ) (w : List (List ℕ))
    → has_length_in (filled_body s b ls) n w ≡ has_length_in b n w
has_length_filled s (Chirotope m) ls n w = refl
has_length_filled s (Points ps) ls n w = refl
has_length_filled s _ ls n w = refl

pub room_filled : (s : Setting) (b : Body) (ls : List (List (List ℕ))) (n : ℕ)
    → room_of (filled_body s b ls) n ≡ room_of b n
room_filled s (Chirotope m) ls n = refl
room_filled s (Points ps) ls n = refl
room_filled s _ ls n = refl

all_signs-append : (ls : List (List (List ℕ))) (w : List (List ℕ))
    → all_signs (ls ++ w ∷ []) ≡ all_signs ls ++ signs_of_line w
all_signs-append ls w =
    rw (map-append concat ls (w ∷ []), concat-append (map concat ls) (concat w ∷ []), append-nil (concat w))
    (map-append sign_of_byte (concat (map concat ls)) (concat w))

blocks-append : (ls : List (List (List ℕ))) (w : List (List ℕ))
    → flat_map blocks_on (ls ++ w ∷ []) ≡ flat_map blocks_on ls ++ blocks_on w
blocks-append ls w = flat_map-append blocks_on ls (w ∷ [])
    ∙ ap (λ r. flat_map blocks_on ls ++ r) (append-nil (blocks_on w))

members_line : (s : Setting) (w : List (List ℕ)) → members_of_line s w ≡ members_on s (signs_of_line w)
members_line Plain w = refl
members_line Revlex w = refl
members_line Half w = refl

members-append : (s : Setting) (ls : List (List (List ℕ))) (w : List (List ℕ))
    → distinct (flat_map (members_of_line s) (ls ++ w ∷ []))
    ≡ with_line_members s (distinct (flat_map (members_of_line s) ls)) w
members-append s ls w =
    let e : flat_map (members_of_line s) (ls ++ w ∷ []) ≡ flat_map (members_of_line s) ls
    ++ members_on s (signs_of_line w) = flat_map-append (members_of_line s) ls (w ∷ [])
    ∙ ap (λ r. flat_map (members_of_line s) ls ++ r) (append-nil (members_of_line s w) ∙ members_line s w) in
    ap distinct e ∙ distinct-each (flat_map (members_of_line s) ls) (members_on s (signs_of_line w))

-- one more line
pub filled_added : (s : Setting) (b : Body) (ls : List (List (List ℕ))) (w : List (List ℕ))
    → added_body s (filled_body s b ls) w ≡ filled_body s b (ls ++ w ∷ [])
filled_added s (Chirotope m) ls w =
    ap (λ xs. Chirotope (record { rank = m.rank; elements = m.elements; signs = xs })) (sym (all_signs-append ls w))
filled_added s (Wiring bs) ls w = ap Wiring (sym (blocks-append ls w))
filled_added s (Points ps) ls w = ap Points (sym (map-append point_on ls (w ∷ [])))
filled_added s b ls w = ap (with_members b) (sym (members-append s ls w))

pub size_grows : (s : Setting) (b : Body) (w : List (List ℕ)) → size_of b ≤ size_of (added_body s b w)
size_grows s (Chirotope m) w = omega (arith, length-append m.signs (signs_of_line w))
size_grows s (Wiring bs) w = omega (arith, length-append bs (blocks_on w))
size_grows s (Points ps) w = omega (arith, length-append ps (point_on w ∷ []))
size_grows s b w = with_each_grows (members_of b) (members_on s (signs_of_line w))

pub size_prefix : (s : Setting) (b : Body) (xs ys : List (List (List ℕ)))
    → size_of (filled_body s b xs) ≤ size_of (filled_body s b (xs ++ ys))
size_prefix s b xs [] = rw (append-nil xs) (omega arith)
size_prefix s b xs (y ∷ ys) =
    let one : size_of (filled_body s b xs) ≤ size_of (filled_body s b (xs ++ y ∷ [])) =
    rw (← filled_added s b xs y) (size_grows s (filled_body s b xs) y) in
    let more : size_of (filled_body s b (xs ++ y ∷ [])) ≤ size_of (filled_body s b ((xs ++ y ∷ []) ++ ys)) =
    size_prefix s b (xs ++ y ∷ []) ys in
    let e : (xs ++ y ∷ []) ++ ys ≡ xs ++ y ∷ ys = append_assoc xs (y ∷ []) ys in
    rw (← e) (omega arith)

-- a document with room had it before
pub room_before : (s : Setting) (d : Document) (xs ys : List (List (List ℕ))) → has_room (filled s d (xs ++ ys)) ≡ true
    → has_room (filled s d xs) ≡ true
room_before s d xs ys h =
    let r = room_filled s d.body xs d.elements in
    let q = room_filled s d.body (xs ++ ys) d.elements in
    let g = size_prefix s d.body xs ys in
    let l : size_of (filled_body s d.body (xs ++ ys)) ≤ room_of (filled_body s d.body (xs ++ ys)) d.elements =
    leb-true _ _ h in
    le-leb _ _ (omega arith)

pub room_empty : (s : Setting) (d : Document) → has_room (filled s d []) ≡ true
room_empty s d = at d.body
  where
    at : (b : Body) → nat_le (size_of (filled_body s b [])) (room_of (filled_body s b []) d.elements) ≡ true
    at (Chirotope m) = leb-zero (choose m.elements m.rank)
    at (Points ps) = leb-zero d.elements
    at _ = refl

-- without body lines the setting says nothing
pub empty_filled : (s t : Setting) (b : Body) → filled_body s b [] ≡ filled_body t b []
empty_filled s t (Chirotope m) = refl
empty_filled s t (Wiring bs) = refl
empty_filled s t (Points ps) = refl
empty_filled s t b = refl
