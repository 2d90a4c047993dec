-- The lines of a block, as they are printed, say what they are printed of.
--
-- Main definitions: IsLine, AreLines
-- Main results: vector_line, entry_line, weight_line, pivots_line, basis_line, width_line, all_lines
use Rattle.std.proofs.Common.{◌≡◌, ℕ, ◌≤◌, ◌<◌, ◌^◌, List, [], ◌∷◌, Bool, true, false, ◌&&◌, length, map, refl, ap, ◌∙◌}
use Rattle.std.proofs.Common.{arith}
use Rattle.std.proofs.lemmas.Int.{ints}
use Rattle.std.specs.Prelude.{ℤ, pos, negsuc, codes, decimal, Option, Some, None, option_map, option_and_then, cond}
use Rattle.std.specs.Prelude.{All}
use Rattle.std.specs.Fmt.{signed_decimal}
use Rattle.std.specs.List.{list_all}
use Rattle.std.proofs.lemmas.Bool.{le-leb, lt-ltb}
use Rattle.std.proofs.lemmas.List.Elements.{All-head, All-tail}
use Rattle.om_vectors.specs.WholeVectors.{WholeVector, IsWithinLimit}
use Rattle.om_simplex.specs.declared.stage.Stage.{Stage}
use Rattle.om_simplex.specs.declared.stage.Stage.TheVariants as stage
use Rattle.om_certificate.specs.declared.entry.Entry.{Entry}
use Rattle.om_certificate.specs.declared.weight.Weight.{Weight}
use Rattle.om_certificate.specs.declared.lp_end.LpEnd.TheVariants as lp_end
use Rattle.om_certificate.specs.Forms.{IsEntryInForm, IsWeightInForm, IsWidthInForm}
use Rattle.om_document.specs.Heading.{with_item, plain_numbers}
use Rattle.om_document.proofs.Texts.{is_word, is_word_line}
use Rattle.om_document.proofs.Numerals.{decimal_word, number_word, unsigned_word, signed_word}
use Rattle.om_signs.specs.declared.limits.TheConstants.{MAX_PIVOTS, MAX_PLAIN}
use Rattle.om_answer.specs.declared.range.Range.{Range}
use Rattle.om_answer.specs.declared.range.Range.TheVariants.{Between, UpToSize}
use Rattle.om_answer.specs.Numbers.{at_least, number_within, numbers_within, IsIn, AreIn}
use Rattle.om_answer.specs.BlockLines.{vector_ranges, vector_from, vector_of, entry_ranges, entry_from, strictness}
use Rattle.om_answer.specs.BlockLines.{entry_of, weight_ranges, weight_from, weight_of, count_from, pivots_ranges}
use Rattle.om_answer.specs.BlockLines.{pivots_of, some_of, basis_of, stage_of, width_from, width_ranges, width_of}
use Rattle.om_reply.specs.VerdictText.{named, vector_numbers, vector_words, entry_numbers, relation_name, entry_words}
use Rattle.om_reply.specs.VerdictText.{weight_numbers, weight_words, stage_name, width_numbers}

-- ---- numbers

-- the numbers of a range are of a size below 2 ^ 120, so that their decimal digits are read back
IsRangeIn120Bits : Range → Type 0
IsRangeIn120Bits (Between low high) = high < 2 ^ 120
IsRangeIn120Bits (UpToSize size) = size < 2 ^ 120

-- a number is printed as a word, and this is read as the number
record IsRead (r : Range) (z : ℤ) : Type 0 where
  value : number_within r (signed_decimal z) ≡ Some z
  word : is_word (signed_decimal z) ≡ true

number_read : (r : Range) (z : ℤ) → IsRangeIn120Bits r → IsIn r z → IsRead r z
unfolding IsRangeIn120Bits
number_read (Between low high) (pos k) n i =
    let above : low ≤ k = omega (arith, ints, i.0) in
    let below : k ≤ high = omega (arith, ints, i.1) in
    let d = decimal_word k (omega arith) in
    record {
      value = ap (λ o. option_map pos (option_and_then (at_least low) o)) (unsigned_word high k d below)
          ∙ ap (λ b. option_map pos (cond b (Some k) None)) (le-leb low k above);
      word = rw (d.bytes, d.any) refl;
    }
number_read (Between low high) (negsuc k) n i = absurd (omega (arith, ints, i.0))
number_read (UpToSize size) z n i =
    let s = signed_word size z (omega arith) i in
    record { value = s.value; word = rw (s.bytes, s.any) refl }

between : {low high k : ℕ} → low ≤ k → k ≤ high → IsIn (Between low high) (pos k)
between l h = (omega (arith, ints), omega (arith, ints))

-- each of these ranges is such a one
AreRangesIn120Bits : List Range → Type 0
AreRangesIn120Bits [] = Unit {0}
AreRangesIn120Bits (r ∷ rs) = IsRangeIn120Bits r × AreRangesIn120Bits rs

record AreRead (rs : List Range) (zs : List ℤ) : Type 0 where
  values : numbers_within rs (map signed_decimal zs) ≡ Some zs
  words : list_all is_word (map signed_decimal zs) ≡ true

numbers_read : (rs : List Range) (zs : List ℤ) → AreRangesIn120Bits rs → AreIn rs zs → AreRead rs zs
unfolding AreRangesIn120Bits
numbers_read [] [] n i = record { values = refl; words = refl }
numbers_read [] (z ∷ zs) n i = absurd i
numbers_read (r ∷ rs) [] n i = absurd i
numbers_read (r ∷ rs) (z ∷ zs) n i =
    let h = number_read r z n.0 i.0 in
    let t = numbers_read rs zs n.1 i.1 in
    record {
      values = ap (λ o. with_item o (numbers_within rs (map signed_decimal zs))) h.value
          ∙ ap (with_item (Some z)) t.values;
      words = ap (λ b. b && list_all is_word (map signed_decimal zs)) h.word ∙ t.words;
    }

-- plain numbers
record ArePlain (ns : List ℕ) : Type 0 where
  values : plain_numbers (map decimal ns) ≡ Some ns
  words : list_all is_word (map decimal ns) ≡ true

plain_read : (ns : List ℕ) → All (λ n. n ≤ MAX_PLAIN) ns → ArePlain ns
plain_read [] a = record { values = refl; words = refl }
plain_read (n ∷ ns) a =
    let l = All-head (λ n. n ≤ MAX_PLAIN) n ns a in
    let h = number_word n (omega (arith, l)) in
    let t = plain_read ns (All-tail (λ n. n ≤ MAX_PLAIN) n ns a) in
    let w : is_word (decimal n) ≡ true = rw (h.bytes, h.any) refl in
    record {
      values = ap (λ o. with_item o (plain_numbers (map decimal ns))) h.value ∙ ap (with_item (Some n)) t.values;
      words = ap (λ b. b && list_all is_word (map decimal ns)) w ∙ t.words;
    }

-- ---- lines

-- the words of a line are words, and say x
pub record IsLine {A : Type 0} (line_of : List (List ℕ) → Option A) (ws : List (List ℕ)) (x : A) : Type 0 where
  pub value : line_of ws ≡ Some x
  pub words : is_word_line ws ≡ true

vector_ranges_fit : AreRangesIn120Bits vector_ranges
unfolding AreRangesIn120Bits IsRangeIn120Bits
vector_ranges_fit = (omega arith, (omega arith, (omega arith, tt)))

pub vector_line : (v : WholeVector) → IsWithinLimit v → IsLine vector_of (vector_words v) v
vector_line v h =
    let r = numbers_read vector_ranges (vector_numbers v) vector_ranges_fit (h.x, (h.y, (h.z, tt))) in
    record { value = ap (option_and_then vector_from) r.values; words = r.words }

entry_ranges_fit : AreRangesIn120Bits entry_ranges
unfolding AreRangesIn120Bits IsRangeIn120Bits
entry_ranges_fit = (
  omega arith,
  (omega arith, (omega arith, (omega arith, (omega arith, (omega arith, (omega arith, (omega arith, tt))))))),
)

relation_read : (strict : Bool) → strictness (relation_name strict) ≡ Some strict
relation_read true = refl
relation_read false = refl

relation_word : (strict : Bool) → is_word (relation_name strict) ≡ true
relation_word true = refl
relation_word false = refl

-- the numbers of an entry are in their ranges
entry_in : (e : Entry) → IsEntryInForm e → AreIn entry_ranges (entry_numbers e)
entry_in e h = (
  between h.a.low h.a.high,
  (
    between h.b.low h.b.high,
    (
      between h.c.low h.c.high,
      (
        between h.d.low h.d.high,
        (
          between h.e.low h.e.high,
          (between h.small.low h.small.high, (between h.big.low h.big.high, (between h.times.low h.times.high, tt))),
        ),
      ),
    ),
  ),
)

pub entry_line : (e : Entry) → IsEntryInForm e → IsLine entry_of (entry_words e) e
entry_line e h =
    let r = numbers_read entry_ranges (entry_numbers e) entry_ranges_fit (entry_in e h) in
    let s = e.statement.strict in
    let ws = map signed_decimal (entry_numbers e) in
    record {
      value = ap (option_and_then (λ strict. option_and_then (entry_from strict) (numbers_within entry_ranges ws)))
          (relation_read s)
          ∙ ap (option_and_then (entry_from s)) r.values;
      words = ap (λ b. b && list_all is_word ws) (relation_word s) ∙ r.words;
    }

weight_ranges_fit : AreRangesIn120Bits weight_ranges
unfolding AreRangesIn120Bits IsRangeIn120Bits
weight_ranges_fit = (omega arith, (omega arith, (omega arith, (omega arith, tt))))

weight_in : (w : Weight) → IsWeightInForm w → AreIn weight_ranges (weight_numbers w)
weight_in w h =
    let a = h.a in
    let b = h.a_b in
    let c = h.b_c in
    let d = h.c in
    (between a (omega arith), (between (omega arith) (omega arith), (between (omega arith) d, (h.size, tt))))

pub weight_line : (w : Weight) → IsWeightInForm w → IsLine weight_of (weight_words w) w
weight_line w h =
    let r = numbers_read weight_ranges (weight_numbers w) weight_ranges_fit (weight_in w h) in
    record {
      value = ap (option_and_then weight_from) r.values ∙ rw (lt-ltb w.a w.b h.a_b, lt-ltb w.b w.c h.b_c) refl;
      words = r.words;
    }

pivots_ranges_fit : AreRangesIn120Bits pivots_ranges
unfolding AreRangesIn120Bits IsRangeIn120Bits
pivots_ranges_fit = (omega arith, tt)

pub pivots_line : (count : ℕ) → count ≤ MAX_PIVOTS → IsLine pivots_of (named (codes "pivots") (pos count ∷ [])) count
pivots_line count h =
    let r = numbers_read pivots_ranges (pos count ∷ []) pivots_ranges_fit (between (omega arith) h, tt) in
    record { value = ap (option_and_then count_from) r.values; words = r.words }

some_numbers : (ns : List ℕ) → 1 ≤ length ns → some_of ns ≡ Some ns
some_numbers [] h = absurd (omega arith)
some_numbers (n ∷ ns) h = refl

pub basis_line : (basis : List ℕ) → 1 ≤ length basis → All (λ b. b ≤ MAX_PLAIN) basis
    → IsLine basis_of (codes "basis" ∷ map decimal basis) basis
basis_line basis some plain =
    let r = plain_read basis plain in
    record { value = ap (option_and_then some_of) r.values ∙ some_numbers basis some; words = r.words }

width_ranges_fit : AreRangesIn120Bits width_ranges
unfolding AreRangesIn120Bits IsRangeIn120Bits
width_ranges_fit = (omega arith, (omega arith, (omega arith, tt)))

stage_read : (s : Stage) → stage_of (stage_name s) ≡ Some s
stage_read stage.Price = refl
stage_read stage.Column = refl
stage_read stage.Update = refl
stage_read stage.Scale = refl

stage_word : (s : Stage) → is_word (stage_name s) ≡ true
stage_word stage.Price = refl
stage_word stage.Column = refl
stage_word stage.Update = refl
stage_word stage.Scale = refl

pub width_line : (s : Stage) (p r c : ℕ) → IsWidthInForm p r c
    → IsLine width_of (codes "width" ∷ named (stage_name s) (width_numbers p r c)) (lp_end.Width s p r c)
width_line s p r c h =
    let k = numbers_read width_ranges (width_numbers p r c) width_ranges_fit (
      between (omega arith) h.pivot_most,
      (between (omega arith) h.row_most, (between (omega arith) h.place_most, tt)),
    ) in
    let ws = map signed_decimal (width_numbers p r c) in
    record {
      value = ap (option_and_then (λ s. option_and_then (width_from s) (numbers_within width_ranges ws))) (stage_read s)
          ∙ ap (option_and_then (width_from s)) k.values;
      words = ap (λ b. b && list_all is_word ws) (stage_word s) ∙ k.words;
    }

-- ---- lists of lines

pub record AreLines {A : Type 0} (line_of : List (List ℕ) → Option A) (ls : List (List (List ℕ))) (xs : List A) : Type
    0 where
  pub values : map line_of ls ≡ map Some xs
  pub words : list_all is_word_line ls ≡ true

pub all_lines : {A : Type 0} (P : A → Type 0) (line_of : List (List ℕ) → Option A) (words_of : A → List (List ℕ))
    → ((x : A) → P x → IsLine line_of (words_of x) x) → (xs : List A) → All P xs → AreLines line_of (map words_of xs) xs
all_lines P line_of words_of each [] a = record { values = refl; words = refl }
all_lines P line_of words_of each (x ∷ xs) a =
    let h = each x (All-head P x xs a) in
    let t = all_lines P line_of words_of each xs (All-tail P x xs a) in
    record {
      values = ap (λ o. o ∷ map line_of (map words_of xs)) h.value ∙ ap (λ os. Some x ∷ os) t.values;
      words = ap (λ b. b && list_all is_word_line (map words_of xs)) h.words ∙ t.words;
    }
