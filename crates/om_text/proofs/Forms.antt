-- A document's value has the forms of documents, within the limits.
--
-- Main results: document_form
use Rattle.std.proofs.Common.{◌≡◌, ℕ, ◌≤◌, List, [], ◌∷◌, true, not, ◌&&◌, length, map, refl, sym, ap, subst, ◌∙◌}
use Rattle.std.specs.Prelude.{ℤ, Option, Some, None, is_some, unwrap_or, IfSome, All, nat_eq, nat_le, slice_index_or}
use Rattle.std.specs.List.{list_all, concat, flat_map, before_first, after_first}
use Rattle.std.proofs.lemmas.Bool.{leb-true, eqb-true, and_parts}
use Rattle.std.proofs.lemmas.List.{length-map}
use Rattle.std.proofs.lemmas.List.Elements.{All-nil, All-cons, All-head, All-tail, All-append, All-filter}
use Rattle.om_signs.specs.declared.limits.TheConstants.{MAX_ELEMENTS, MAX_MEMBERS, MAX_VALUES, MAX_BLOCKS, MAX_POSITION}
use Rattle.om_signs.specs.declared.block.Block.{Block}
use Rattle.om_signs.specs.declared.raw_map.RawMap.{RawMap}
use Rattle.om_signs.specs.declared.sign.Sign.{Sign}
use Rattle.om_signs.specs.declared.sign.Sign.TheVariants.{Zero}
use Rattle.om_signs.specs.Sign.{opposite}
use Rattle.om_subsets.specs.Subsets.{choose, all_subsets}
use Rattle.om_subsets.specs.Reverse.{revlex_rank_of}
use Rattle.om_subsets.proofs.Order.{length-subsets_from}
use Rattle.om_document.specs.declared.document.Document.{Document}
use Rattle.om_document.specs.declared.body.Body.TheVariants.{Chirotope}
use Rattle.om_document.specs.declared.setting.Setting.{Setting}
use Rattle.om_document.specs.declared.setting.Setting.TheVariants.{Plain, Revlex, Half}
use Rattle.om_document.specs.declared.document_kind.DocumentKind.{DocumentKind}
use Rattle.om_document.specs.declared.document_kind.DocumentKind.TheVariants as kinds
use Rattle.om_lines.specs.Words.{sign_of_byte}
use Rattle.om_document.specs.Heading.{kind_of, numbers, opened, headed, heading, empty_body, has_elements, has_rank}
use Rattle.om_document.specs.Heading.{has_size}
use Rattle.om_document.specs.Rows.{same_row, distinct}
use Rattle.om_document.specs.Settings.{in_lexicographic_order, finished}
use Rattle.om_document.specs.Document.{IsSpelled, are_signs, signs_of_line, members_of_line, all_signs, is_body_line}
use Rattle.om_document.specs.Document.{has_room, is_complete, filled, filled_body}
use Rattle.om_document.specs.Form.{IsInForm, AreMembersOn, IsShort, AreBlocks, IsPoint, ArePointsOn, IsBodyOn, IsMapOn}
use Rattle.om_document.specs.Form.{AreNamesOn}
use Rattle.om_signs.specs.Coordinates.{IsCoordinate}
use Rattle.om_document.specs.Blocks.{position_of, is_dash, with_positions, block_of, block_on, are_blocks, blocks_on}
use Rattle.om_document.specs.Points.{coordinate, with_three, point_of, point_on}
use Rattle.om_text.proofs.SettingLines.{settings_names}
use Rattle.om_text.proofs.Course.{named}
use Rattle.om_document.proofs.BlockWords.{position_within}
use Rattle.om_lines.proofs.Digits.{signed_within}
use Rattle.om_text.proofs.Small.{mapped}
use Rattle.om_document.proofs.Sorting.{distinct_differ}

All-distinct : (P : List Sign → Type 0) (xs : List (List Sign)) → All P xs → All P (distinct xs)
All-distinct P [] h = h
All-distinct P (x ∷ xs) h =
    All-cons P x _ (All-head P x xs h)
    (All-filter (λ y. not (same_row x y)) P (distinct xs) (All-distinct P xs (All-tail P x xs h)))

opposite_long : (n : ℕ) (x : List Sign) → length x ≡ n → length (map opposite x) ≡ n
opposite_long n x h = length-map x opposite ∙ h

line_long : (s : Setting) (n : ℕ) (l : List (List ℕ)) → length (signs_of_line l) ≡ n
    → All (λ x. length x ≡ n) (members_of_line s l)
line_long Half n l h = All-cons (λ x. length x ≡ n) (signs_of_line l) (map opposite (signs_of_line l) ∷ []) h
    (All-cons (λ x. length x ≡ n) (map opposite (signs_of_line l)) [] (opposite_long n (signs_of_line l) h)
    (All-nil (λ x. length x ≡ n)))
line_long Plain n l h = All-cons (λ x. length x ≡ n) (signs_of_line l) [] h (All-nil (λ x. length x ≡ n))
line_long Revlex n l h = All-cons (λ x. length x ≡ n) (signs_of_line l) [] h (All-nil (λ x. length x ≡ n))

rows_long : (s : Setting) (n : ℕ) (ls : List (List (List ℕ)))
    → list_all (λ l. are_signs l && nat_eq (length (concat l)) n) ls ≡ true
    → All (λ x. length x ≡ n) (flat_map (members_of_line s) ls)
rows_long s n [] h = All-nil (λ x. length x ≡ n)
rows_long s n (l ∷ ls) h =
    let a = and_parts (are_signs l && nat_eq (length (concat l)) n)
    (list_all (λ l. are_signs l && nat_eq (length (concat l)) n) ls) h in
    let b = and_parts (are_signs l) (nat_eq (length (concat l)) n) a.0 in
    All-append (λ x. length x ≡ n) (members_of_line s l) (flat_map (members_of_line s) ls)
    (line_long s n l (length-map (concat l) sign_of_byte ∙ eqb-true _ _ b.1)) (rows_long s n ls a.1)

members_form : (s : Setting) (n : ℕ) (ls : List (List (List ℕ)))
    → list_all (λ l. are_signs l && nat_eq (length (concat l)) n) ls ≡ true
    → nat_le (length (distinct (flat_map (members_of_line s) ls))) MAX_MEMBERS ≡ true
    → AreMembersOn n (distinct (flat_map (members_of_line s) ls))
members_form s n ls h m = record {
  few = leb-true _ _ m;
  long = All-distinct (λ x. length x ≡ n) (flat_map (members_of_line s) ls) (rows_long s n ls h);
  distinct = distinct_differ (flat_map (members_of_line s) ls);
}

-- the lines of a list
lines_of_signs : (n : ℕ) (ls : List (List (List ℕ)))
    → list_all (λ l. are_signs l && nat_eq (length (concat l)) n && true && true) ls ≡ true
    → list_all (λ l. are_signs l && nat_eq (length (concat l)) n) ls ≡ true
lines_of_signs n [] h = refl
lines_of_signs n (l ∷ ls) h =
    let a = and_parts (are_signs l && nat_eq (length (concat l)) n && true && true)
    (list_all (λ l. are_signs l && nat_eq (length (concat l)) n && true && true) ls) h in
    let b = and_parts (are_signs l && nat_eq (length (concat l)) n && true) true a.0 in
    rw ((and_parts (are_signs l && nat_eq (length (concat l)) n) true b.0).0, lines_of_signs n ls a.1) refl

-- the blocks of lines

short_form : (a b : Option ℕ) (d : Block) → IfSome a (λ k. k ≤ MAX_POSITION) → IfSome b (λ k. k ≤ MAX_POSITION)
    → is_some (with_positions a b) ≡ true → IsShort (unwrap_or (with_positions a b) d)
short_form None b d h g e = cc
short_form (Some i) None d h g e = cc
short_form (Some i) (Some j) d h g e = record { first = h; last = g }

block_form : (w : List ℕ) → is_some (block_of w) ≡ true → IsShort (block_on w)
block_form w h = short_form (position_of (before_first is_dash w)) (position_of (after_first is_dash w)) _
    (position_within (before_first is_dash w)) (position_within (after_first is_dash w)) h

each_block : (ws : List (List ℕ)) → are_blocks ws ≡ true → All IsShort (blocks_on ws)
each_block [] h = All-nil IsShort
each_block (w ∷ ws) h =
    let a = and_parts (is_some (block_of w)) (are_blocks ws) h in
    All-cons IsShort (block_on w) _ (block_form w a.0) (each_block ws a.1)

all_blocks : (ls : List (List (List ℕ))) → list_all (λ l. are_blocks l && true) ls ≡ true
    → All IsShort (flat_map blocks_on ls)
all_blocks [] h = All-nil IsShort
all_blocks (l ∷ ls) h =
    let a = and_parts (are_blocks l && true) (list_all (λ l. are_blocks l && true) ls) h in
    let b = and_parts (are_blocks l) true a.0 in
    All-append IsShort (blocks_on l) (flat_map blocks_on ls) (each_block l b.0) (all_blocks ls a.1)

blocks_form : (ls : List (List (List ℕ))) → list_all (λ l. are_blocks l && true) ls ≡ true
    → nat_le (length (flat_map blocks_on ls)) MAX_BLOCKS ≡ true → AreBlocks (flat_map blocks_on ls)
blocks_form ls h m = record { few = leb-true _ _ m; short = all_blocks ls h }

-- the points of lines

three_form : (x y z : Option ℤ) → IfSome x IsCoordinate → IfSome y IsCoordinate → IfSome z IsCoordinate
    → is_some (with_three x y z) ≡ true → IsPoint (unwrap_or (with_three x y z) [])
three_form None y z a b c h = cc
three_form (Some x) None z a b c h = cc
three_form (Some x) (Some y) None a b c h = cc
three_form (Some x) (Some y) (Some z) a b c h = record {
  three = refl;
  small = All-cons IsCoordinate x (y ∷ z ∷ []) a
      (All-cons IsCoordinate y (z ∷ []) b (All-cons IsCoordinate z [] c (All-nil IsCoordinate)));
}

point_form : (w : List (List ℕ)) → is_some (point_of w) ≡ true → IsPoint (point_on w)
point_form (x ∷ y ∷ z ∷ []) h =
    three_form (coordinate x) (coordinate y) (coordinate z) (signed_within _ x) (signed_within _ y) (signed_within _ z)
    h
point_form _ h = cc

each_point : (ls : List (List (List ℕ))) → list_all (λ l. is_some (point_of l)) ls ≡ true
    → All IsPoint (map point_on ls)
each_point [] h = All-nil IsPoint
each_point (l ∷ ls) h =
    let a = and_parts (is_some (point_of l)) (list_all (λ l. is_some (point_of l)) ls) h in
    All-cons IsPoint (point_on l) _ (point_form l a.0) (each_point ls a.1)

points_form : (n : ℕ) (ls : List (List (List ℕ))) → list_all (λ l. is_some (point_of l)) ls ≡ true
    → length (map point_on ls) ≡ n → ArePointsOn n (map point_on ls)
points_form n ls h e = record { count = e; each = each_point ls h }

-- the values of a map, in lexicographic order
map_form : (s : Setting) (n : ℕ) (m : RawMap) → IsMapOn n m → IsBodyOn n (in_lexicographic_order s (Chirotope m))
map_form Plain n m f = f
map_form Half n m f = f
map_form Revlex n m f = record {
  elements = f.elements;
  rank = f.rank;
  signs = length-map (all_subsets m.elements m.rank) (λ s. slice_index_or m.signs (revlex_rank_of s) Zero)
      ∙ length-subsets_from 1 m.elements m.rank ∙ ap (λ n. choose n m.rank) f.elements;
  few = f.few;
}

body_form : (s : Setting) (k : DocumentKind) (r n : ℕ) (ls : List (List (List ℕ))) → has_rank (headed k (r, n)) ≡ true
    → has_size (headed k (r, n)) ≡ true → list_all (is_body_line (headed k (r, n))) ls ≡ true
    → has_room (filled s (headed k (r, n)) ls) ≡ true → is_complete (filled s (headed k (r, n)) ls) ≡ true
    → IsBodyOn n (in_lexicographic_order s (filled_body s (empty_body k r n) ls))
body_form s kinds.Chirotope r n ls l z a m c =
    map_form s n (record { rank = r; elements = n; signs = all_signs ls })
    (record {
      elements = refl;
      rank = leb-true r n l;
      signs = eqb-true _ _ c;
      few =
          leb-true (choose n r) MAX_VALUES z;
    })
body_form Plain kinds.Wiring r n ls l z a m c = blocks_form ls a m
body_form Revlex kinds.Wiring r n ls l z a m c = blocks_form ls a m
body_form Half kinds.Wiring r n ls l z a m c = blocks_form ls a m
body_form Plain kinds.Points r n ls l z a m c = points_form n ls a (eqb-true _ _ c)
body_form Revlex kinds.Points r n ls l z a m c = points_form n ls a (eqb-true _ _ c)
body_form Half kinds.Points r n ls l z a m c = points_form n ls a (eqb-true _ _ c)
body_form Plain _ r n ls l z a m c = members_form Plain n ls (lines_of_signs n ls a) m
body_form Revlex _ r n ls l z a m c = members_form Revlex n ls (lines_of_signs n ls a) m
body_form Half _ r n ls l z a m c = members_form Half n ls (lines_of_signs n ls a) m

head_form : (names : List (List ℕ)) (s : Setting) (k : DocumentKind) (p : ℕ × ℕ) (ls : List (List (List ℕ)))
    → has_elements (headed k p) ≡ true → has_rank (headed k p) ≡ true → has_size (headed k p) ≡ true
    → list_all (is_body_line (headed k p)) ls ≡ true → has_room (filled s (headed k p) ls) ≡ true
    → is_complete (filled s (headed k p) ls) ≡ true → AreNamesOn p.1 names
    → IsInForm (finished names s (filled s (headed k p) ls))
head_form names s k p ls e l z a m c w =
    let b = and_parts (nat_le 1 p.1) (nat_le p.1 MAX_ELEMENTS) e in
    record {
      low = leb-true 1 p.1 b.0;
      high = leb-true p.1 MAX_ELEMENTS b.1;
      body = body_form s k p.0 p.1 ls l z a m c;
      names = w;
    }

spelled_form : (names : List (List ℕ)) (s : Setting) (w : List ℕ) (ws : List (List ℕ)) (head : Document)
    (ls : List (List (List ℕ))) → heading (w ∷ ws) ≡ Some head → has_elements head ≡ true → has_rank head ≡ true
    → has_size head ≡ true → list_all (is_body_line head) ls ≡ true → has_room (filled s head ls) ≡ true
    → is_complete (filled s head ls) ≡ true → AreNamesOn head.elements names
    → IsInForm (finished names s (filled s head ls))
spelled_form names s w ws head ls h e l z a m c g =
    let k = named (kind_of w) (λ k. opened k ws) head h in
    let q : opened k.0 ws ≡ Some head = rw k.1 at h in
    let p = mapped (numbers k.0 ws) (headed k.0) head q in
    let f = head_form names s k.0 p.0 ls in
    subst (λ h. has_elements h ≡ true → has_rank h ≡ true → has_size h ≡ true → list_all (is_body_line h) ls ≡ true
    → has_room (filled s h ls) ≡ true → is_complete (filled s h ls) ≡ true → AreNamesOn h.elements names
    → IsInForm (finished names s (filled s h ls))) p.1 f e l z a m c g

-- what a document's lines give is in form
pub document_form : (ls : List (List (List ℕ))) (d : Document) → IsSpelled ls d → IsInForm d
document_form ls d s = at s.kind_line s.heading
  where
    at : (w : List (List ℕ)) → heading w ≡ Some s.head → IsInForm d
    at [] h = cc
    at (w ∷ ws) h =
        subst IsInForm (sym s.value)
        (spelled_form s.names s.setting w ws s.head s.body h s.elements s.rank s.size s.each s.room s.complete
        (settings_names s.version s.head s.settings s.names s.setting s.set))
