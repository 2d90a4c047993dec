-- The lines of a body, as they are read.
--
-- Main definitions: AreRows, AreCut, ArePointLines, AreBlockLines
-- Main results: map_rows, map_each, member_rows, members_long, points_reread, blocks_reread
use Rattle.std.proofs.Common.{◌≡◌, ℕ, zero, suc, ◌+◌, ◌*◌, ◌/◌, ◌<◌, ◌≤◌, List, [], ◌∷◌, ◌++◌, true, ◌&&◌, cond, length}
use Rattle.std.proofs.Common.{take, drop, map, refl, sym, ap, ◌∙◌, arith, append-nil, nat_eq, length-drop, eq-eqb}
use Rattle.std.specs.Prelude.{ℤ, unsigned_abs, is_some, unwrap_or, filter, Some, All}
use Rattle.std.specs.List.{list_all, concat, flat_map}
use Rattle.std.specs.Fmt.{signed_decimal}
use Rattle.std.proofs.lemmas.List.{length-map, take-append-drop}
use Rattle.std.proofs.lemmas.List.Elements.{All-head, All-tail}
use Rattle.std.proofs.lemmas.List.Folds.{list_all-append}
use Rattle.std.proofs.lemmas.Bool.{and_parts}
use Rattle.om_signs.specs.declared.limits.TheConstants.{MAX_COORDINATE}
use Rattle.om_signs.specs.declared.block.Block.{Block}
use Rattle.om_signs.specs.declared.sign.Sign.{Sign}
use Rattle.om_document.specs.declared.document_kind.DocumentKind.TheVariants as kinds
use Rattle.om_document.specs.Heading.{headed}
use Rattle.om_lines.specs.Lines.{has_any, words, wordful}
use Rattle.om_lines.specs.Words.{is_sign, byte_of}
use Rattle.om_document.specs.Blocks.{block_of, block_on, are_blocks, blocks_on}
use Rattle.om_document.specs.Points.{point_of, point_on}
use Rattle.om_document.specs.Document.{are_signs, is_body_line}
use Rattle.om_document.specs.Form.{IsShort, IsPoint}
use Rattle.om_signs.specs.Coordinates.{IsCoordinate}
use Rattle.om_document.specs.Print.{cut, member_lines, block_text, block_lines, spaced, point_lines}
use Rattle.om_document.proofs.BlockWords.{block_word}
use Rattle.om_document.proofs.Feeds.{is_one_line}
use Rattle.om_document.proofs.Numerals.{IsSigned, signed_word}
use Rattle.om_document.proofs.Texts.{word_one_line, words_one, words_three, three_one_line, signs_are_word, single}
use Rattle.om_document.proofs.Texts.{bytes_are_signs}

-- ---- lines of signs

-- lines that are read as one word each
pub record AreRows (ls : List (List ℕ)) : Type 0 where
  pub lines_words : wordful ls ≡ single ls
  pub one_line : list_all is_one_line ls ≡ true
  pub signs : list_all are_signs (single ls) ≡ true

no_rows : AreRows []
no_rows = record { lines_words = refl; one_line = refl; signs = refl }

one_row : (row : List ℕ) (ls : List (List ℕ)) → list_all is_sign row ≡ true → has_any row ≡ true → AreRows ls
    → AreRows (row ∷ ls)
one_row row ls s h i =
    let w = signs_are_word row s in
    let e : words row ≡ row ∷ [] = words_one row w h in
    let z : are_signs (row ∷ []) ≡ true = ap (list_all is_sign) (append-nil row) ∙ s in
    record {
      lines_words = ap (λ x. filter has_any (x ∷ map words ls)) e ∙ ap (λ x. (row ∷ []) ∷ x) i.lines_words;
      one_line = rw (word_one_line row w) i.one_line;
      signs = rw z i.signs;
    }

-- ---- the lines of a map

pub record AreCut (k : ℕ) (bs : List ℕ) : Type 0 where
  pub rows : AreRows (cut k bs)
  pub joined : concat (map concat (single (cut k bs))) ≡ bs

cut_rows : (k : ℕ) (bs : List ℕ) → length bs ≤ 64 * k → 64 * k < length bs + 64 → list_all is_sign bs ≡ true
    → AreCut k bs
cut_rows zero [] h l s = record { rows = no_rows; joined = refl }
cut_rows zero (b ∷ bs) h l s = absurd (omega arith)
cut_rows (suc k) [] h l s = absurd (omega arith)
cut_rows (suc k) (b ∷ bs) h l s =
    let row = take 64 (b ∷ bs) in
    let rest = drop 64 (b ∷ bs) in
    let whole : row ++ rest ≡ b ∷ bs = take-append-drop 64 (b ∷ bs) in
    let split : (list_all is_sign row && list_all is_sign rest) ≡ true = sym (list_all-append is_sign row rest)
    ∙ ap (list_all is_sign) whole ∙ s in
    let c = and_parts (list_all is_sign row) (list_all is_sign rest) split in
    let n = length-drop 64 (b ∷ bs) in
    let i : AreCut k rest = cut_rows k rest (omega arith) (omega arith) c.1 in
    record {
      rows = one_row row (cut k rest) c.0 refl i.rows;
      joined = ap (λ x. x ++ concat (map concat (single (cut k rest)))) (append-nil row) ∙ ap (λ x. row ++ x) i.joined
          ∙ whole;
    }

pub map_rows : (xs : List Sign) → AreCut ((length xs + 63) / 64) (map byte_of xs)
map_rows xs = let n = length-map xs byte_of in
    cut_rows ((length xs + 63) / 64) (map byte_of xs) (omega arith) (omega arith) (bytes_are_signs xs)

-- they may stand in the body of a map
pub map_each : (r n : ℕ) (ls : List (List (List ℕ))) → list_all are_signs ls ≡ true
    → list_all (is_body_line (headed kinds.Chirotope (r, n))) ls ≡ true
map_each r n [] h = refl
map_each r n (l ∷ ls) h = let a = and_parts (are_signs l) (list_all are_signs ls) h in
    rw (a.0, map_each r n ls a.1) refl

-- ---- the lines of members

any_byte : (n : ℕ) (x : List Sign) → 1 ≤ n → length x ≡ n → has_any (map byte_of x) ≡ true
any_byte n [] l h = absurd (omega arith)
any_byte n (s ∷ x) l h = refl

pub member_rows : (n : ℕ) (ms : List (List Sign)) → 1 ≤ n → All (λ x. length x ≡ n) ms → AreRows (member_lines ms)
member_rows n [] l a = no_rows
member_rows n (x ∷ xs) l a =
    one_row (map byte_of x) (member_lines xs) (bytes_are_signs x) (any_byte n x l (All-head (λ x. length x ≡ n) x xs a))
    (member_rows n xs l (All-tail (λ x. length x ≡ n) x xs a))

pub members_long : (n : ℕ) (ms : List (List Sign)) → All (λ x. length x ≡ n) ms
    → list_all (λ l. are_signs l && nat_eq (length (concat l)) n && true && true) (single (member_lines ms)) ≡ true
members_long n [] a = refl
members_long n (x ∷ xs) a =
    let j : map byte_of x ++ [] ≡ map byte_of x = append-nil (map byte_of x) in
    let s : are_signs (map byte_of x ∷ []) ≡ true = ap (list_all is_sign) j ∙ bytes_are_signs x in
    let l : nat_eq (length (concat (map byte_of x ∷ []))) n ≡ true =
    eq-eqb _ n (ap length j ∙ length-map x byte_of ∙ All-head (λ x. length x ≡ n) x xs a) in
    rw (s, l) (members_long n xs (All-tail (λ x. length x ≡ n) x xs a))

-- ---- the lines of points

-- a point's line is read as its coordinates
record IsPointLine (p : List ℤ) : Type 0 where
  line_words : words (spaced (map signed_decimal p)) ≡ map signed_decimal p
  any : has_any (map signed_decimal p) ≡ true
  pub one_line : is_one_line (spaced (map signed_decimal p)) ≡ true
  point : point_of (map signed_decimal p) ≡ Some p

coordinate_word : (z : ℤ) → IsCoordinate z → IsSigned (unsigned_abs MAX_COORDINATE) z
coordinate_word z h = signed_word (unsigned_abs MAX_COORDINATE) z (omega arith) h

point_line : (p : List ℤ) → IsPoint p → IsPointLine p
point_line [] f = absurd (let e = f.three in omega arith)
point_line (x ∷ []) f = absurd (let e = f.three in omega arith)
point_line (x ∷ y ∷ []) f = absurd (let e = f.three in omega arith)
point_line (x ∷ y ∷ z ∷ []) f =
    let a = coordinate_word x (All-head IsCoordinate x (y ∷ z ∷ []) f.small) in
    let t = All-tail IsCoordinate x (y ∷ z ∷ []) f.small in
    let b = coordinate_word y (All-head IsCoordinate y (z ∷ []) t) in
    let c = coordinate_word z (All-head IsCoordinate z [] (All-tail IsCoordinate y (z ∷ []) t)) in
    record {
      line_words = words_three (signed_decimal x) (signed_decimal y) (signed_decimal z) a.bytes a.any b.bytes b.any
          c.bytes c.any;
      any = refl;
      one_line = three_one_line (signed_decimal x) (signed_decimal y) (signed_decimal z) a.bytes b.bytes c.bytes;
      point = rw (a.value, b.value, c.value) refl;
    }
point_line (x ∷ y ∷ z ∷ u ∷ p) f = absurd (let e = f.three in omega arith)

pub record ArePointLines (ps : List (List ℤ)) : Type 0 where
  pub lines_words : wordful (point_lines ps) ≡ map (map signed_decimal) ps
  pub one_line : list_all is_one_line (point_lines ps) ≡ true
  pub each : list_all (λ w. is_some (point_of w)) (map (map signed_decimal) ps) ≡ true
  pub value : map point_on (map (map signed_decimal) ps) ≡ ps

pub points_reread : (ps : List (List ℤ)) → All IsPoint ps → ArePointLines ps
points_reread [] a = record { lines_words = refl; one_line = refl; each = refl; value = refl }
points_reread (p ∷ ps) a =
    let l = point_line p (All-head IsPoint p ps a) in
    let i = points_reread ps (All-tail IsPoint p ps a) in
    record {
      lines_words = ap (λ x. filter has_any (x ∷ map words (point_lines ps))) l.line_words
          ∙ ap (λ b. cond b (map signed_decimal p ∷ wordful (point_lines ps)) (wordful (point_lines ps))) l.any
          ∙ ap (λ x. map signed_decimal p ∷ x) i.lines_words;
      one_line = rw l.one_line i.one_line;
      each = rw l.point i.each;
      value = ap (λ o. unwrap_or o [] ∷ map point_on (map (map signed_decimal) ps)) l.point ∙ ap (λ r. p ∷ r) i.value;
    }

-- ---- the lines of blocks

-- the lines of blocks are read as one word each, and these are the blocks
pub record AreBlockLines (bs : List Block) : Type 0 where
  pub lines_words : wordful (block_lines bs) ≡ single (block_lines bs)
  pub one_line : list_all is_one_line (block_lines bs) ≡ true
  pub each : list_all (λ l. are_blocks l && true) (single (block_lines bs)) ≡ true
  pub value : flat_map blocks_on (single (block_lines bs)) ≡ bs

pub blocks_reread : (bs : List Block) → All IsShort bs → AreBlockLines bs
blocks_reread [] a = record { lines_words = refl; one_line = refl; each = refl; value = refl }
blocks_reread (b ∷ bs) a =
    let w = block_word b (All-head IsShort b bs a) in
    let i = blocks_reread bs (All-tail IsShort b bs a) in
    let s : is_some (block_of (block_text b)) ≡ true = ap is_some w.value in
    let o : block_on (block_text b) ≡ b = ap (λ o. unwrap_or o (record { first = 0; last = 0 })) w.value in
    record {
      lines_words = ap (λ x. filter has_any (x ∷ map words (block_lines bs))) (words_one (block_text b) w.bytes w.any)
          ∙ ap (λ x. (block_text b ∷ []) ∷ x) i.lines_words;
      one_line = rw (word_one_line (block_text b) w.bytes) i.one_line;
      each = rw s i.each;
      value = ap (λ x. x ∷ flat_map blocks_on (single (block_lines bs))) o ∙ ap (λ x. b ∷ x) i.value;
    }
