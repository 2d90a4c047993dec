-- What is printed has no more bytes than an input may have: it has few lines, and each is short.
--
-- Main results: cut_bytes, printed_short, printed_two_short
use Rattle.std.proofs.Common.{◌≡◌, ℕ, zero, suc, ◌+◌, ◌*◌, ◌/◌, ◌<◌, ◌≤◌, ◌^◌, List, [], ◌∷◌, ◌++◌, true, length, take}
use Rattle.std.proofs.Common.{drop, map, nat_eq, nat_le, ◌&&◌, ap, ◌∙◌, arith, length-append, length-drop}
use Rattle.std.specs.Prelude.{ℤ, pos, negsuc, codes, decimal, All}
use Rattle.std.specs.Fmt.{signed_decimal}
use Rattle.std.specs.List.{list_all}
use Rattle.std.proofs.lemmas.Bool.{eqb-true, leb-true, and_parts}
use Rattle.std.proofs.lemmas.Fmt.{length-decimal-le}
use Rattle.std.proofs.lemmas.List.{length-map, length-take}
use Rattle.std.proofs.lemmas.List.Elements.{All-cons, All-head, All-tail, All-map, All-weaker}
use Rattle.std.proofs.lemmas.List.Sums.{AllPass-from_list_all, count_by-le-length, length-filter}
use Rattle.om_signs.specs.declared.limits.TheConstants.{MAX_INPUT, MAX_ELEMENTS, MAX_VALUES, MAX_MEMBERS, MAX_NAME}
use Rattle.om_signs.specs.declared.block.Block.{Block}
use Rattle.om_signs.specs.declared.sign.Sign.{Sign}
use Rattle.om_signs.specs.Coordinates.{IsCoordinate}
use Rattle.om_subsets.specs.Subsets.{choose}
use Rattle.om_document.specs.declared.document.Document.{Document}
use Rattle.om_document.specs.declared.body.Body.{Body}
use Rattle.om_document.specs.declared.body.Body.TheVariants.{Chirotope, Circuits, Cocircuits, Covectors, Wiring, Points}
use Rattle.om_lines.specs.Words.{byte_of}
use Rattle.om_document.specs.Names.{is_name_byte, is_name, are_different}
use Rattle.om_document.specs.Members.{members_of}
use Rattle.om_document.specs.Rows.{sorted}
use Rattle.om_document.specs.Heading.{kind_name}
use Rattle.om_document.specs.Form.{IsShort, AreBlocks, IsPoint, ArePointsOn, AreMembersOn, IsBodyOn, IsInForm}
use Rattle.om_document.specs.Print.{text_of, cut, sign_lines, member_lines, spaced, block_text, block_lines}
use Rattle.om_document.specs.Print.{point_lines, sizes_text, kind_text, body_lines, printed}
use Rattle.om_document.specs.PrintTwo.{printed_names, values_in_revlex, begins_with_plus, half_of, setting_lines}
use Rattle.om_document.specs.PrintTwo.{body_lines_two, printed_two}
use Rattle.om_document.proofs.Halves.{half_long}
use Rattle.om_document.proofs.NameTexts.{printed_are_names, all_names}
use Rattle.om_document.proofs.Orders.{length-values_in_revlex}
use Rattle.om_document.proofs.Printing.{text_of-append}
use Rattle.om_document.proofs.Sorting.{All-sorted, length-sorted}

-- ---- words

-- a word with no more bytes than a number of 64 bits has digits
abbrev IsShortWord : List ℕ → Type 0
IsShortWord w = length w ≤ 20

number_short : (n : ℕ) → n < 2 ^ 64 → IsShortWord (decimal n)
number_short n h = length-decimal-le 20 n (omega arith) (omega arith) h

coordinate_short : (z : ℤ) → IsCoordinate z → IsShortWord (signed_decimal z)
coordinate_short (pos n) h = number_short n (omega arith)
coordinate_short (negsuc n) h = let l = length-decimal-le 19 (suc n) (omega arith) (omega arith) (omega arith) in
    omega (arith, l)

name_short : (w : List ℕ) → is_name w ≡ true → IsShortWord w
name_short w h =
    let a = and_parts (nat_le 1 (length w) && nat_le (length w) MAX_NAME) (list_all is_name_byte w) h in
    let l = leb-true (length w) MAX_NAME (and_parts (nat_le 1 (length w)) (nat_le (length w) MAX_NAME) a.0).1 in
    omega (arith, l)

spaced_bytes : (ws : List (List ℕ)) → All IsShortWord ws → length (spaced ws) ≤ 21 * length ws
spaced_bytes [] h = omega arith
spaced_bytes (w ∷ []) h = let a = All-head IsShortWord w [] h in omega (arith, a)
spaced_bytes (w ∷ v ∷ ws) h =
    let a = All-head IsShortWord w (v ∷ ws) h in
    let b = spaced_bytes (v ∷ ws) (All-tail IsShortWord w (v ∷ ws) h) in
    omega (arith, a, b, length-append w (32 ∷ spaced (v ∷ ws)))

-- ---- lines

-- the bytes of signs in lines of 64, with one more for each line
pub cut_bytes : (k : ℕ) (bs : List ℕ) → length (text_of (cut k bs)) ≤ length bs + k
cut_bytes zero bs = omega arith
cut_bytes (suc k) bs =
    let a = length-append (take 64 bs) (10 ∷ text_of (cut k (drop 64 bs))) in
    let b = cut_bytes k (drop 64 bs) in
    omega (arith, a, b, length-take 64 bs, length-drop 64 bs)

-- a line of a list, a wiring or points, or a kind line
abbrev IsShortLine : List ℕ → Type 0
IsShortLine l = length l ≤ 100

-- no more such lines than a list may have members
record AreShortLines (ls : List (List ℕ)) : Type 0 where
  few : length ls ≤ MAX_MEMBERS
  short : All IsShortLine ls

lines_bytes : (ls : List (List ℕ)) → All IsShortLine ls → length (text_of ls) ≤ 101 * length ls
lines_bytes [] h = omega arith
lines_bytes (l ∷ ls) h =
    let a = All-head IsShortLine l ls h in
    let b = lines_bytes ls (All-tail IsShortLine l ls h) in
    omega (arith, a, b, length-append l (10 ∷ text_of ls))

mapped_short : {A : Type 0} (line_of : A → List ℕ) (P : A → Type 0) → ((x : A) → P x → IsShortLine (line_of x))
    → (xs : List A) → length xs ≤ MAX_MEMBERS → All P xs → AreShortLines (map line_of xs)
mapped_short line_of P each xs few h = record {
  few = omega (arith, length-map xs line_of);
  short = All-map IsShortLine line_of xs (All-weaker P (λ x. IsShortLine (line_of x)) each xs h);
}

block_short : (b : Block) → IsShort b → IsShortLine (block_text b)
block_short b h =
    let i = number_short b.first (let l = h.first in omega arith) in
    let j = number_short b.last (let l = h.last in omega arith) in
    omega (arith, i, j, length-append (decimal b.first) (45 ∷ decimal b.last))

point_short : (p : List ℤ) → IsPoint p → IsShortLine (spaced (map signed_decimal p))
point_short p h =
    let l = spaced_bytes (map signed_decimal p)
    (All-map IsShortWord signed_decimal p
    (All-weaker IsCoordinate (λ z. IsShortWord (signed_decimal z)) coordinate_short p h.small)) in
    let n = h.three in
    omega (arith, l, n, length-map p signed_decimal)

members_short : (n : ℕ) (ms : List (List Sign)) → n ≤ MAX_ELEMENTS → length ms ≤ MAX_MEMBERS
    → All (λ x. length x ≡ n) ms → AreShortLines (member_lines ms)
members_short n ms high few long =
    mapped_short (map byte_of) (λ x. length x ≡ n) (λ x l. omega (arith, l, length-map x byte_of)) ms few long

kind_short : (d : Document) → IsInForm d → IsShortLine (kind_text d)
kind_short d f = line_short d.elements d.body f.high f.body
  where
    line_short : (n : ℕ) (b : Body) → n ≤ MAX_ELEMENTS → IsBodyOn n b → IsShortLine (kind_name b ++ sizes_text n b)
    line_short n (Chirotope m) high h =
        let r = number_short m.rank (let l = h.rank in omega arith) in
        let e = number_short n (omega arith) in
        omega (arith, r, e, length-append (decimal m.rank) (32 ∷ decimal n))
    line_short n b high h = let e = number_short n (omega arith) in omega (arith, e)

-- ---- bodies

-- the most bytes of the lines of a body
abbrev MOST_BYTES : ℕ
MOST_BYTES = 101 * MAX_MEMBERS

short_bytes : (ls : List (List ℕ)) → AreShortLines ls → length (text_of ls) ≤ MOST_BYTES
short_bytes ls h = let n = h.few in let l = lines_bytes ls h.short in omega (arith, n, l)

signs_bytes : (xs : List Sign) → length xs ≤ MAX_VALUES → length (text_of (sign_lines xs)) ≤ MOST_BYTES
signs_bytes xs few = let l = cut_bytes ((length xs + 63) / 64) (map byte_of xs) in
    omega (arith, few, l, length-map xs byte_of)

blocks_bytes : (bs : List Block) → AreBlocks bs → length (text_of (block_lines bs)) ≤ MOST_BYTES
blocks_bytes bs h =
    short_bytes (block_lines bs) (mapped_short block_text IsShort block_short bs (let n = h.few in omega arith) h.short)

points_bytes : (n : ℕ) (ps : List (List ℤ)) → n ≤ MAX_ELEMENTS → ArePointsOn n ps
    → length (text_of (point_lines ps)) ≤ MOST_BYTES
points_bytes n ps high h =
    short_bytes (point_lines ps)
    (mapped_short (λ p. spaced (map signed_decimal p)) IsPoint point_short ps (let e = h.count in omega arith) h.each)

sorted_bytes : (n : ℕ) (ms : List (List Sign)) → n ≤ MAX_ELEMENTS → AreMembersOn n ms
    → length (text_of (member_lines (sorted ms))) ≤ MOST_BYTES
sorted_bytes n ms high h =
    let few = h.few in
    short_bytes (member_lines (sorted ms))
    (members_short n (sorted ms) high (omega (arith, few, length-sorted ms))
    (All-sorted (λ x. length x ≡ n) ms h.long))

half_bytes : (n : ℕ) (ms : List (List Sign)) → n ≤ MAX_ELEMENTS → AreMembersOn n ms
    → length (text_of (member_lines (half_of ms))) ≤ MOST_BYTES
half_bytes n ms high h =
    let few = h.few in
    let l = length-filter begins_with_plus (sorted ms) in
    let m = count_by-le-length begins_with_plus (sorted ms) in
    short_bytes (member_lines (half_of ms))
    (members_short n (half_of ms) high (omega (arith, few, l, m, length-sorted ms)) (half_long n ms h.long))

body_bytes : (n : ℕ) (b : Body) → n ≤ MAX_ELEMENTS → IsBodyOn n b → length (text_of (body_lines b)) ≤ MOST_BYTES
body_bytes n (Chirotope m) high h = let s = h.signs in let f = h.few in signs_bytes m.signs (omega arith)
body_bytes n (Wiring bs) high h = blocks_bytes bs h
body_bytes n (Points ps) high h = points_bytes n ps high h
body_bytes n b high h = sorted_bytes n (members_of b) high h

body_bytes_two : (n : ℕ) (b : Body) → n ≤ MAX_ELEMENTS → IsBodyOn n b → length (text_of (body_lines_two b)) ≤ MOST_BYTES
body_bytes_two n (Chirotope m) high h =
    let f = h.few in
    let e : length (values_in_revlex m) ≡ choose n m.rank = length-values_in_revlex m
    ∙ ap (λ k. choose k m.rank) h.elements in
    signs_bytes (values_in_revlex m) (omega arith)
body_bytes_two n (Wiring bs) high h = blocks_bytes bs h
body_bytes_two n (Points ps) high h = points_bytes n ps high h
body_bytes_two n b high h = half_bytes n (members_of b) high h

setting_bytes : (b : Body) → length (text_of (setting_lines b)) ≤ 20
setting_bytes (Chirotope m) = omega arith
setting_bytes (Circuits ms) = omega arith
setting_bytes (Cocircuits ms) = omega arith
setting_bytes (Covectors ms) = omega arith
setting_bytes (Wiring bs) = omega arith
setting_bytes (Points ps) = omega arith

-- the line of the names that are printed
names_bytes : (d : Document) → IsInForm d → length (spaced (codes "names" ∷ printed_names d.elements d.names)) ≤ 21 * 21
names_bytes d f =
    let ws : List (List ℕ) = printed_names d.elements d.names in
    let high = f.high in
    let are = printed_are_names d.elements d.names (omega arith) f.names in
    let each = All-weaker (λ w. is_name w ≡ true) IsShortWord name_short ws
    (AllPass-from_list_all is_name ws (all_names d.elements ws are)) in
    let count =
    eqb-true (length ws) d.elements
    (and_parts (nat_eq (length ws) d.elements) (list_all is_name ws)
    (and_parts (nat_eq (length ws) d.elements && list_all is_name ws) (are_different ws) are).0).0 in
    let l = spaced_bytes (codes "names" ∷ ws) (All-cons IsShortWord (codes "names") ws (omega arith) each) in
    omega (arith, high, count, l)

-- ---- documents

-- lines with the line `end` behind them
ended_bytes : (ls : List (List ℕ)) → length (text_of (ls ++ codes "end" ∷ [])) ≡ length (text_of ls) + 4
ended_bytes ls = ap length (text_of-append ls (codes "end" ∷ []))
    ∙ length-append (text_of ls) (text_of (codes "end" ∷ []))

pub printed_short : (d : Document) → IsInForm d → length (printed d) ≤ MAX_INPUT
printed_short d f =
    let kind = kind_short d f in
    let body = body_bytes d.elements d.body f.high f.body in
    let behind = length-append (kind_text d) (10 ∷ text_of (body_lines d.body ++ codes "end" ∷ [])) in
    omega (arith, kind, body, behind, ended_bytes (body_lines d.body))

two_bytes : (kind names : List ℕ) (settings ls : List (List ℕ))
    → length (text_of (codes "om 2" ∷ kind ∷ names ∷ (settings ++ ls ++ codes "end" ∷ []))) ≡ length kind + length names
    + length (text_of settings) + length (text_of ls) + 11
two_bytes kind names settings ls =
    let a = length-append kind (10 ∷ (names ++ 10 ∷ text_of (settings ++ ls ++ codes "end" ∷ []))) in
    let b = length-append names (10 ∷ text_of (settings ++ ls ++ codes "end" ∷ [])) in
    let c = ap length (text_of-append settings ls) ∙ length-append (text_of settings) (text_of ls) in
    omega (arith, a, b, c, ended_bytes (settings ++ ls))

pub printed_two_short : (d : Document) → IsInForm d → length (printed_two d) ≤ MAX_INPUT
printed_two_short d f =
    let kind = kind_short d f in
    let names = names_bytes d f in
    let setting = setting_bytes d.body in
    let body = body_bytes_two d.elements d.body f.high f.body in
    let whole = two_bytes (kind_text d) (spaced (codes "names" ∷ printed_names d.elements d.names))
    (setting_lines d.body) (body_lines_two d.body) in
    omega (arith, kind, names, setting, body, whole)
