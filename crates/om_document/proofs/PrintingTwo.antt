-- The text of a document in version 2, put together piece by piece.
--
-- Main results: numbers_more, names_more, names_line_end, value_read, values_more, value_rows_more, begun_more,
-- printed_two_bytes
use Rattle.std.proofs.Common.{◌≡◌, ℕ, ◌+◌, ◌-◌, ◌<◌, ◌≤◌, min, List, [], ◌∷◌, ◌++◌, length, take, drop, get_or, map}
use Rattle.std.proofs.Common.{sym, ap, ◌∙◌, append_assoc, append-nil, arith, get_or-drop, length-drop}
use Rattle.std.specs.Prelude.{codes, decimal, filter, Some, Result, Ok, Err, OnOk, slice_get}
use Rattle.std.specs.List.{flat_map}
use Rattle.std.proofs.Math.ListN.{drop_of_length-le}
use Rattle.std.proofs.lemmas.Grind.{flat_map-append}
use Rattle.std.proofs.lemmas.List.{take_more, map-append, drop-drop, get_or-map}
use Rattle.std.proofs.lemmas.List.Elements.{filter-append}
use Rattle.std.proofs.lemmas.Option.{get_or_from_slice_get}
use Rattle.std.proofs.lemmas.List.FromFn.{map-range_with_len_more}
use Rattle.om_signs.specs.declared.raw_map.RawMap.{RawMap}
use Rattle.om_signs.specs.declared.sign.Sign.{Sign}
use Rattle.om_signs.specs.declared.sign.Sign.TheVariants.{Zero}
use Rattle.om_subsets.specs.Subsets.{choose, rank_of}
use Rattle.om_subsets.specs.Reverse.{revlex_subsets, revlex_subset_at}
use Rattle.om_subsets.proofs.ReversePlaces.{length-revlex_subsets}
use Rattle.om_document.specs.declared.document.Document.{Document}
use Rattle.om_lines.specs.Words.{byte_of}
use Rattle.om_document.specs.Print.{text_of, sign_lines, member_lines, spaced, kind_text}
use Rattle.om_document.specs.PrintTwo.{numbered_names, printed_names, values_in_revlex, begins_with_plus, setting_lines}
use Rattle.om_document.specs.PrintTwo.{body_lines_two, printed_two}
use Rattle.om_document.proofs.Printing.{text_of-append, lines_more, sign_lines_step}

-- ---- names

-- words, each after a space
abbrev pub after_spaces : List (List ℕ) → List ℕ
after_spaces ws = flat_map (λ w. 32 ∷ w) ws

spaces_more : (ws : List (List ℕ)) (w : List ℕ) → after_spaces (ws ++ w ∷ []) ≡ after_spaces ws ++ 32 ∷ w
spaces_more ws w = flat_map-append (λ w. 32 ∷ w) ws (w ∷ []) ∙ ap (λ x. after_spaces ws ++ 32 ∷ x) (append-nil w)

-- one more word behind others
word_more : (base out new : List ℕ) (ws : List (List ℕ)) (w : List ℕ) → out ≡ base ++ after_spaces ws
    → new ≡ out ++ 32 ∷ w → new ≡ base ++ after_spaces (ws ++ w ∷ [])
word_more base out new ws w o n = n ∙ ap (λ x. x ++ 32 ∷ w) o ∙ append_assoc base (after_spaces ws) (32 ∷ w)
    ∙ ap (λ x. base ++ x) (sym (spaces_more ws w))

pub numbers_more : (base out new name : List ℕ) (i j : ℕ) → j ≡ i + 1 → out ≡ base ++ after_spaces (numbered_names i)
    → name ≡ 32 ∷ 101 ∷ decimal j → new ≡ out ++ name → new ≡ base ++ after_spaces (numbered_names (i + 1))
numbers_more base out new name i j e o m n =
    let more : numbered_names (i + 1) ≡ numbered_names i ++ (101 ∷ decimal j) ∷ [] =
    map-range_with_len_more (λ k. 101 ∷ decimal k) 1 i j (omega arith) in
    word_more base out new (numbered_names i) (101 ∷ decimal j) o (n ∙ ap (λ x. out ++ x) m)
    ∙ ap (λ ws. base ++ after_spaces ws) (sym more)

pub names_more : (base out new : List ℕ) (ws : List (List ℕ)) (i : ℕ) (w : List ℕ) → i < length ws → w ≡ get_or ws i w
    → out ≡ base ++ after_spaces (take i ws) → new ≡ out ++ 32 ∷ w → new ≡ base ++ after_spaces (take (i + 1) ws)
names_more base out new ws i w l e o n =
    let more : take (i + 1) ws ≡ take i ws ++ w ∷ [] = take_more ws i w l ∙ ap (λ v. take i ws ++ v ∷ []) (sym e) in
    word_more base out new (take i ws) w o n ∙ ap (λ vs. base ++ after_spaces vs) (sym more)

spaced_after : (w : List ℕ) (ws : List (List ℕ)) → spaced (w ∷ ws) ≡ w ++ after_spaces ws
spaced_after w [] = sym (append-nil w)
spaced_after w (v ∷ ws) = ap (λ x. w ++ 32 ∷ x) (spaced_after v ws)

names_line_bytes : (base first most new : List ℕ) (ws : List (List ℕ)) → first ≡ base ++ codes "names"
    → most ≡ first ++ after_spaces ws → new ≡ most ++ 10 ∷ [] → new ≡ base ++ text_of (spaced (codes "names" ∷ ws) ∷ [])
names_line_bytes base first most new ws f m n =
    n ∙ ap (λ x. x ++ 10 ∷ []) (m ∙ ap (λ x. x ++ after_spaces ws) f
    ∙ append_assoc base (codes "names") (after_spaces ws)
    ∙ ap (λ x. base ++ x) (sym (spaced_after (codes "names") ws)))
    ∙ append_assoc base (spaced (codes "names" ∷ ws)) (10 ∷ [])

pub names_line_end : {E : Type 0} (r : Result Unit E) (base first most new : List ℕ) (ws : List (List ℕ))
    → first ≡ base ++ codes "names" → most ≡ first ++ after_spaces ws → OnOk r (new ≡ most ++ 10 ∷ [])
    → OnOk r (new ≡ base ++ text_of (spaced (codes "names" ∷ ws) ∷ []))
names_line_end (Ok x) base first most new ws f m n = names_line_bytes base first most new ws f m n
names_line_end (Err x) base first most new ws f m n = tt

-- ---- values

-- the value at the set of a place
pub value_read : (m : RawMap) (place k n : ℕ) (s : List ℕ) (x : Sign) → place < choose m.elements m.rank
    → n ≡ m.elements → s ≡ revlex_subset_at m.elements m.rank place → k ≡ rank_of n s → slice_get m.signs k ≡ Some x
    → x ≡ get_or (values_in_revlex m) place Zero
value_read m place k n s x l e q r h =
    let within : place < length (revlex_subsets m.elements m.rank) = let c = length-revlex_subsets m.elements m.rank in
    omega arith in
    sym (get_or_from_slice_get m.signs k x Zero h)
    ∙ ap (λ i. get_or m.signs i Zero) (r ∙ ap (λ n. rank_of n s) e ∙ ap (rank_of m.elements) q)
    ∙ sym (get_or-map (λ s. get_or m.signs (rank_of m.elements s) Zero) (revlex_subsets m.elements m.rank) place [] Zero
    within)

-- one more value in a line
pub values_more : (base out new : List ℕ) (xs : List Sign) (first place : ℕ) (x : Sign) → first ≤ place
    → place < length xs → x ≡ get_or xs place Zero → out ≡ base ++ map byte_of (take (place - first) (drop first xs))
    → new ≡ out ++ byte_of x ∷ [] → new ≡ base ++ map byte_of (take (place + 1 - first) (drop first xs))
values_more base out new xs first place x f l e o n =
    let i : ℕ = place - first in
    let within : i < length (drop first xs) = let d = length-drop first xs in omega arith in
    let here : get_or (drop first xs) i Zero ≡ x = get_or-drop first xs i Zero
    ∙ ap (λ k. get_or xs k Zero) (let s : first + i ≡ place = omega arith in s) ∙ sym e in
    let more : take (i + 1) (drop first xs) ≡ take i (drop first xs) ++ x ∷ [] = take_more (drop first xs) i Zero within
    ∙ ap (λ y. take i (drop first xs) ++ y ∷ []) here in
    let count : place + 1 - first ≡ i + 1 = omega arith in
    n ∙ ap (λ y. y ++ byte_of x ∷ []) o ∙ append_assoc base (map byte_of (take i (drop first xs))) (byte_of x ∷ [])
    ∙ ap (λ y. base ++ y) (sym (map-append byte_of (take i (drop first xs)) (x ∷ [])) ∙ ap (map byte_of) (sym more)
    ∙ ap (λ k. map byte_of (take k (drop first xs))) (sym count))

-- one more line of values
pub value_rows_more : (out new t : List ℕ) (xs : List Sign) (first count k end : ℕ) → first < count → count ≡ length xs
    → k ≡ min (count - first) 64 → end ≡ first + k → new ≡ (out ++ map byte_of (take (end - first) (drop first xs)))
    ++ 10 ∷ [] → out ++ text_of (sign_lines (drop first xs)) ≡ t → new ++ text_of (sign_lines (drop end xs)) ≡ t
value_rows_more out new t xs first count k end l c m e n i =
    let rest : List Sign = drop first xs in
    let d = length-drop first xs in
    let some : 0 < length rest = omega arith in
    let least : k ≡ min (length rest) 64 = omega arith in
    let step = ap text_of (sign_lines_step rest k some least) in
    let gap : end - first ≡ k = omega arith in
    let left : drop end xs ≡ drop k rest = ap (λ j. drop j xs) e ∙ sym (drop-drop k first xs) in
    ap (λ ys. new ++ text_of (sign_lines ys)) left
    ∙ ap (λ x. x ++ text_of (sign_lines (drop k rest)))
    (n ∙ ap (λ j. (out ++ map byte_of (take j rest)) ++ 10 ∷ []) gap
    ∙ append_assoc out (map byte_of (take k rest)) (10 ∷ []))
    ∙ append_assoc out (map byte_of (take k rest) ++ 10 ∷ []) (text_of (sign_lines (drop k rest)))
    ∙ ap (λ x. out ++ x) (append_assoc (map byte_of (take k rest)) (10 ∷ []) (text_of (sign_lines (drop k rest)))
    ∙ sym step) ∙ i

pub value_rows_end : (out t : List ℕ) (xs : List Sign) (first : ℕ) → length xs ≤ first
    → out ++ text_of (sign_lines (drop first xs)) ≡ t → out ≡ t
value_rows_end out t xs first l i = sym (append-nil out)
    ∙ ap (λ ys. out ++ text_of (sign_lines ys)) (sym (drop_of_length-le xs l)) ∙ i

-- ---- members that begin with plus

-- one more member
pub begun_more : (base out new : List ℕ) (ms : List (List Sign)) (i : ℕ) (x : List Sign) → i < length ms
    → x ≡ get_or ms i x → out ≡ base ++ text_of (member_lines (filter begins_with_plus (take i ms)))
    → new ≡ out ++ text_of (member_lines (filter begins_with_plus (x ∷ [])))
    → new ≡ base ++ text_of (member_lines (filter begins_with_plus (take (i + 1) ms)))
begun_more base out new ms i x l e o n =
    let now : List (List Sign) = filter begins_with_plus (take i ms) in
    let more : List (List Sign) = filter begins_with_plus (x ∷ []) in
    let t : filter begins_with_plus (take (i + 1) ms) ≡ now ++ more =
    ap (filter begins_with_plus) (take_more ms i x l ∙ ap (λ y. take i ms ++ y ∷ []) (sym e))
    ∙ filter-append begins_with_plus (take i ms) (x ∷ []) in
    n ∙ ap (λ y. y ++ text_of (member_lines more)) o
    ∙ append_assoc base (text_of (member_lines now)) (text_of (member_lines more))
    ∙ ap (λ y. base ++ y) (sym (text_of-append (member_lines now) (member_lines more))
    ∙ ap text_of (sym (map-append (map byte_of) now more)) ∙ ap (λ ys. text_of (member_lines ys)) (sym t))

-- ---- the whole

-- the text, from its heading, its names, its body and its end
pub printed_two_bytes : {E : Type 0} (r : Result Unit E) (d : Document) (base head names body out : List ℕ)
    → head ≡ (base ++ text_of (codes "om 2" ∷ [])) ++ text_of (kind_text d ∷ [])
    → names ≡ head ++ text_of (spaced (codes "names" ∷ printed_names d.elements d.names) ∷ [])
    → body ≡ names ++ text_of (setting_lines d.body ++ body_lines_two d.body)
    → OnOk r (out ≡ body ++ (101 ∷ 110 ∷ 100 ∷ 10 ∷ [])) → OnOk r (out ≡ base ++ printed_two d)
printed_two_bytes (Ok x) d base head names body out h n b o =
    let first : List (List ℕ) = codes "om 2" ∷ [] in
    let kind : List (List ℕ) = kind_text d ∷ [] in
    let line : List (List ℕ) = spaced (codes "names" ∷ printed_names d.elements d.names) ∷ [] in
    let rest : List (List ℕ) = setting_lines d.body ++ body_lines_two d.body in
    let last : List (List ℕ) = codes "end" ∷ [] in
    let top : head ≡ base ++ text_of (first ++ kind) = h ∙ lines_more base first kind in
    let front : names ≡ base ++ text_of ((first ++ kind) ++ line) = n ∙ ap (λ x. x ++ text_of line) top
    ∙ lines_more base (first ++ kind) line in
    let most : body ≡ base ++ text_of (((first ++ kind) ++ line) ++ rest) = b ∙ ap (λ x. x ++ text_of rest) front
    ∙ lines_more base ((first ++ kind) ++ line) rest in
    let whole : out ≡ base ++ text_of ((((first ++ kind) ++ line) ++ rest) ++ last) = o
    ∙ ap (λ x. x ++ text_of last) most ∙ lines_more base (((first ++ kind) ++ line) ++ rest) last in
    whole
printed_two_bytes (Err x) d base head names body out h n b o = tt
