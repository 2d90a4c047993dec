-- The text of a verdict is short enough to be read: it has few lines, and each is short but the basis line of a limit,
-- which has few numbers.
--
-- Main results: verdict_short.
use Rattle.std.specs.Prelude.{ℕ, suc, ◌≡◌, ◌+◌, ◌*◌, ◌/◌, ◌<◌, ◌≤◌, ◌^◌, ℤ, pos, negsuc, unsigned_abs, List, [], ◌∷◌}
use Rattle.std.specs.Prelude.{◌++◌, Bool, true, false, length, map, decimal, codes, All}
use Rattle.std.specs.Fmt.{signed_decimal}
use Rattle.std.specs.List.{AllByRecursion}
use Rattle.std.proofs.Common.{arith, ap, length-append}
use Rattle.std.proofs.lemmas.List.{length-map}
use Rattle.std.proofs.lemmas.List.Elements.{All-nil, All-cons, All-head, All-tail, All-append, All-map, All-weaker}
use Rattle.itoa.proofs.Decimal.{length_wide}
use Rattle.om_signs.specs.declared.limits.TheConstants.{MAX_INPUT, MAX_PLAIN, MAX_VALUES}
use Rattle.om_chirotope.specs.Map.{SignMap}
use Rattle.om_chirotope.specs.Chirotope.{IsChirotopeWithinLimits}
use Rattle.om_chirotope.proofs.FewValues.{few_of_rank3, most_triples}
use Rattle.om_simplex.specs.declared.stage.Stage.{Stage}
use Rattle.om_simplex.specs.declared.stage.Stage.TheVariants as stage
use Rattle.om_vectors.specs.WholeVectors.{WholeVector, IsWithinLimit}
use Rattle.om_vectors.specs.declared.unfound.Unfound.{Unfound}
use Rattle.om_vectors.specs.declared.unfound.Unfound.TheVariants.{Exhausted, Frontier}
use Rattle.om_certificate.specs.declared.entry.Entry.{Entry}
use Rattle.om_certificate.specs.declared.weight.Weight.{Weight}
use Rattle.om_certificate.specs.declared.lp_end.LpEnd.TheVariants as lp_end
use Rattle.om_certificate.specs.declared.verdict.Verdict.{Verdict}
use Rattle.om_certificate.specs.declared.verdict.Verdict.TheVariants.{Realizable, Nonrealizable, Undecided, Limit}
use Rattle.om_certificate.specs.Forms.{AreVectorsInForm, IsEntryInForm, IsWeightInForm, IsWidthInForm, IsSearchInForm}
use Rattle.om_budgets.specs.declared.budgets.Budgets.{Budgets}
use Rattle.om_decide.proofs.Few.{few_rows}
use Rattle.om_decide.proofs.FewEntries.{few_entries}
use Rattle.om_decide.proofs.VerdictLaws.{limit_rows}
use Rattle.om_lines.specs.Lines.{end_line}
use Rattle.om_document.specs.Print.{text_of, spaced, sign_lines, kind_text, printed}
use Rattle.om_lines.specs.Words.{byte_of}
use Rattle.om_document.proofs.Printing.{text_of-append}
use Rattle.om_document.proofs.Sizes.{cut_bytes}
use Rattle.om_reply.specs.VerdictText.{word_line, named, vector_numbers, vector_words, entry_numbers, entry_words}
use Rattle.om_reply.specs.VerdictText.{weight_numbers, weight_words, relation_name, search_lines, stage_name}
use Rattle.om_reply.specs.VerdictText.{width_numbers, verdict_name, verdict_lines, block_lines, lines_text}
use Rattle.om_reply.specs.VerdictText.{chirotope_document, verdict_text}
use Rattle.om_reply.proofs.BlockTexts.{word_bytes}
use Rattle.om_plane.specs.Decisions.{IsDecided}

-- ---- lines

-- a number whose size fits 128 bits, so that it has at most 39 digits
abbrev IsSmall : ℤ → Type 0
IsSmall z = unsigned_abs z < 2 ^ 128

number_bytes : (z : ℤ) → IsSmall z → length (signed_decimal z) ≤ 40
number_bytes (pos n) h = let l = length_wide n h in omega (arith, l)
number_bytes (negsuc n) h = let l = length_wide (suc n) h in omega (arith, l)

numbers_bytes : (zs : List ℤ) → AllByRecursion IsSmall zs → word_bytes (map signed_decimal zs) ≤ 41 * length zs
numbers_bytes [] h = omega arith
numbers_bytes (z ∷ zs) h = let a = number_bytes z h.0 in let b = numbers_bytes zs h.1 in omega (arith, a, b)

-- the most bytes of a line, counted with one more for each word
abbrev MOST_BYTES : ℕ
MOST_BYTES = 400

-- the words of a line with no more bytes than these
abbrev IsShortLine : List (List ℕ) → Type 0
IsShortLine ws = word_bytes ws ≤ MOST_BYTES

-- a name and at most eight numbers
named_short : (name : List ℕ) (zs : List ℤ) → length name ≤ 20 → length zs ≤ 8 → AllByRecursion IsSmall zs
    → IsShortLine (named name zs)
named_short name zs l few h = let b = numbers_bytes zs h in omega (arith, b)

vector_short : (v : WholeVector) → IsWithinLimit v → IsShortLine (vector_words v)
vector_short v h = let x = h.x in let y = h.y in let z = h.z in
    named_short (codes "vector") (vector_numbers v) (omega arith) (omega arith)
    (omega arith, (omega arith, (omega arith, tt)))

weight_short : (w : Weight) → IsWeightInForm w → IsShortLine (weight_words w)
weight_short w h = let ab = h.a_b in let bc = h.b_c in let c = h.c in let s = h.size in
    named_short (codes "weight") (weight_numbers w) (omega arith) (omega arith)
    (omega arith, (omega arith, (omega arith, (omega arith, tt))))

relation_bytes : (strict : Bool) → length (relation_name strict) ≤ 20
relation_bytes true = omega arith
relation_bytes false = omega arith

entry_short : (e : Entry) → IsEntryInForm e → IsShortLine (entry_words e)
entry_short e h =
    let a = h.a.high in
    let b = h.b.high in
    let c = h.c.high in
    let d = h.d.high in
    let f = h.e.high in
    let s = h.small.high in
    let g = h.big.high in
    let t = h.times.high in
    named_short (relation_name e.statement.strict) (entry_numbers e) (relation_bytes e.statement.strict) (omega arith) (
      omega arith,
      (omega arith, (omega arith, (omega arith, (omega arith, (omega arith, (omega arith, (omega arith, tt))))))),
    )

stage_bytes : (s : Stage) → length (stage_name s) ≤ 20
stage_bytes stage.Price = omega arith
stage_bytes stage.Column = omega arith
stage_bytes stage.Update = omega arith
stage_bytes stage.Scale = omega arith

width_short : (s : Stage) (p r c : ℕ) → IsWidthInForm p r c
    → IsShortLine (codes "width" ∷ named (stage_name s) (width_numbers p r c))
width_short s p r c h =
    let x = h.pivot_most in
    let y = h.row_most in
    let z = h.place_most in
    let a = stage_bytes s in
    let b = numbers_bytes (width_numbers p r c) (omega arith, (omega arith, (omega arith, tt))) in
    omega (arith, a, b)

-- basis numbers, which have at most 39 digits
basis_bytes : (basis : List ℕ) → All (λ b. b ≤ MAX_PLAIN) basis → word_bytes (map decimal basis) ≤ 40 * length basis
basis_bytes [] h = omega arith
basis_bytes (b ∷ bs) h =
    let l = All-head (λ k. k ≤ MAX_PLAIN) b bs h in
    let a = length_wide b (omega arith) in
    let c = basis_bytes bs (All-tail (λ k. k ≤ MAX_PLAIN) b bs h) in
    omega (arith, a, c)

-- ---- lists of lines

spaced_bytes : (ws : List (List ℕ)) → length (spaced ws) ≤ word_bytes ws
spaced_bytes [] = omega arith
spaced_bytes (w ∷ []) = omega arith
spaced_bytes (w ∷ v ∷ ws) = let a = length-append w (32 ∷ spaced (v ∷ ws)) in let b = spaced_bytes (v ∷ ws) in
    omega (arith, a, b)

-- the bytes of a line and of those behind it
first_bytes : (l : List (List ℕ)) (ls : List (List (List ℕ)))
    → length (lines_text (l ∷ ls)) ≤ word_bytes l + 1 + length (lines_text ls)
first_bytes l ls = let a = length-append (spaced l) (10 ∷ lines_text ls) in let b = spaced_bytes l in
    omega (arith, a, b)

lines_bytes : (ls : List (List (List ℕ))) → All IsShortLine ls → length (lines_text ls) ≤ (MOST_BYTES + 1) * length ls
lines_bytes [] h = omega arith
lines_bytes (l ∷ ls) h =
    let a = first_bytes l ls in
    let c = All-head IsShortLine l ls h in
    let d = lines_bytes ls (All-tail IsShortLine l ls h) in
    omega (arith, a, c, d)

-- at most so many lines, each of them short
record AreShortLines (most : ℕ) (ls : List (List (List ℕ))) : Type 0 where
  few : length ls ≤ most
  short : All IsShortLine ls

mapped_short : {A : Type 0} (words_of : A → List (List ℕ)) (P : A → Type 0) (most : ℕ)
    → ((x : A) → P x → IsShortLine (words_of x)) → (xs : List A) → length xs ≤ most → All P xs
    → AreShortLines most (map words_of xs)
mapped_short words_of P most each xs few h = record {
  few = omega (arith, length-map xs words_of);
  short = All-map IsShortLine words_of xs (All-weaker P (λ x. IsShortLine (words_of x)) each xs h);
}

vectors_short : (vs : List WholeVector) → AreVectorsInForm vs → AreShortLines 20 (map vector_words vs)
vectors_short vs h = mapped_short vector_words IsWithinLimit 20 vector_short vs h.few h.each

search_short : (u : Unfound) → IsSearchInForm u → AreShortLines 21 (search_lines u)
search_short Exhausted h =
    record {
      few = omega arith;
      short =
          All-cons IsShortLine (word_line (codes "exhausted")) [] (omega arith) (All-nil IsShortLine);
    }
search_short (Frontier vs) h = let r = vectors_short vs h in let n = r.few in
    record {
      few = omega arith;
      short =
          All-cons IsShortLine (word_line (codes "frontier")) (map vector_words vs) (omega arith) r.short;
    }

both_short : (a b : ℕ) (ls ks : List (List (List ℕ))) → AreShortLines a ls → AreShortLines b ks
    → AreShortLines (a + b) (ls ++ ks)
both_short a b ls ks h g = let n = h.few in let k = g.few in
    record { few = omega (arith, length-append ls ks); short = All-append IsShortLine ls ks h.short g.short }

-- ---- the block of a verdict

-- the most lines of what a verdict has: a weight for each triple, and the end of a search
abbrev MOST_LINES : ℕ
MOST_LINES = 1161

more_lines : (a b : ℕ) (ls : List (List (List ℕ))) → a ≤ b → AreShortLines a ls → AreShortLines b ls
more_lines a b ls l h = let n = h.few in record { few = omega arith; short = h.short }

name_short : (v : Verdict) → IsShortLine (word_line (verdict_name v))
name_short (Realizable vs) = omega arith
name_short (Nonrealizable es) = omega arith
name_short (Undecided ws u) = omega arith
name_short (Limit e u) = omega arith

-- lines and `end`
closed_short : (most : ℕ) (ls : List (List (List ℕ))) → AreShortLines most ls
    → AreShortLines (most + 1) (ls ++ end_line ∷ [])
closed_short most ls h =
    both_short most 1 ls (end_line ∷ []) h
    (record { few = omega arith; short = All-cons IsShortLine end_line [] (omega arith) (All-nil IsShortLine) })

-- the most bytes of a block
abbrev MOST_BLOCK : ℕ
MOST_BLOCK = (MOST_BYTES + 1) * (MOST_LINES + 2)

-- a block of short lines
short_block : (v : Verdict) → AreShortLines MOST_LINES (verdict_lines v)
    → length (lines_text (block_lines v)) ≤ MOST_BLOCK
short_block v h =
    let body = closed_short MOST_LINES (verdict_lines v) h in
    let n = body.few in
    let l = lines_bytes (block_lines v)
    (All-cons IsShortLine (word_line (verdict_name v)) (verdict_lines v ++ end_line ∷ []) (name_short v)
    body.short) in
    omega (arith, n, l)

-- a block whose third line is that of a basis of few numbers
basis_block : (count : ℕ) (basis : List ℕ) (u : Unfound) → count < 2 ^ 128 → length basis ≤ 1141
    → All (λ b. b ≤ MAX_PLAIN) basis → IsSearchInForm u
    → length (lines_text (block_lines (Limit (lp_end.Pivots count basis) u))) ≤ MOST_BLOCK
basis_block count basis u small few plain search =
    let name = word_line (codes "limit") in
    let pivots = named (codes "pivots") (pos count ∷ []) in
    let numbers = codes "basis" ∷ map decimal basis in
    let rest = search_lines u ++ end_line ∷ [] in
    let closed = closed_short 21 (search_lines u) (search_short u search) in
    let n = closed.few in
    let d = lines_bytes rest closed.short in
    let p = number_bytes (pos count) small in
    let b = basis_bytes basis plain in
    let x = first_bytes name (pivots ∷ numbers ∷ rest) in
    let y = first_bytes pivots (numbers ∷ rest) in
    let z = first_bytes numbers rest in
    omega (arith, n, d, p, b, x, y, z)

block_bytes : (m : SignMap) (b : Budgets) (v : Verdict) → IsDecided m b v
    → length (lines_text (block_lines v)) ≤ MOST_BLOCK
block_bytes m b (Realizable vs) is =
    short_block (Realizable vs)
    (more_lines 20 MOST_LINES (map vector_words vs) (omega arith) (vectors_short vs is.form))
block_bytes m b (Nonrealizable es) is =
    let n = few_entries m b es is.verdict in
    let r = few_rows m is.sound.limits.high in
    short_block (Nonrealizable es)
    (mapped_short entry_words IsEntryInForm MOST_LINES entry_short es (omega (arith, n, r, most_triples)) is.form)
block_bytes m b (Undecided ws u) is =
    let n = is.form.0.few in
    short_block (Undecided ws u) (more_lines (1140 + 21) MOST_LINES (verdict_lines (Undecided ws u)) (omega arith)
    (both_short 1140 21 (map weight_words ws) (search_lines u)
    (mapped_short weight_words IsWeightInForm 1140 weight_short ws (omega (arith, n, most_triples)) is.form.0.each)
    (search_short u is.form.1)))
block_bytes m b (Limit (lp_end.Pivots count basis) u) is =
    let budget = is.form.0.budget in
    let n = limit_rows m b count basis u is.verdict in
    let r = few_rows m is.sound.limits.high in
    basis_block count basis u (omega arith) (omega (arith, n, r, most_triples)) is.form.0.plain is.form.1
block_bytes m b (Limit (lp_end.Width s p r c) u) is =
    let line = codes "width" ∷ named (stage_name s) (width_numbers p r c) in
    let one : AreShortLines 1 (line ∷ []) =
    record {
      few = omega arith;
      short =
          All-cons IsShortLine line [] (width_short s p r c is.form.0) (All-nil IsShortLine);
    } in
    short_block (Limit (lp_end.Width s p r c) u)
    (more_lines (1 + 21) MOST_LINES (verdict_lines (Limit (lp_end.Width s p r c) u)) (omega arith)
    (both_short 1 21 (line ∷ []) (search_lines u) one (search_short u is.form.1)))

-- ---- the document

-- the most bytes of a chirotope's document: a sign and a line feed for each value, and three short lines
abbrev MOST_DOCUMENT : ℕ
MOST_DOCUMENT = 2 * MAX_VALUES + 200

document_bytes : (m : SignMap) → m.rank ≡ 3 → IsChirotopeWithinLimits m
    → length (printed (chirotope_document m)) ≤ MOST_DOCUMENT
document_bytes m three sound =
    let d = chirotope_document m in
    let whole = sound.axioms.whole.whole in
    let few = few_of_rank3 m three sound.limits.high in
    let high = sound.limits.high in
    let signs = cut_bytes ((length m.signs + 63) / 64) (map byte_of m.signs) in
    let first = length-append (kind_text d) (10 ∷ text_of (sign_lines m.signs ++ codes "end" ∷ [])) in
    let last = ap length (text_of-append (sign_lines m.signs) (codes "end" ∷ [])) in
    let behind = length-append (text_of (sign_lines m.signs)) (text_of (codes "end" ∷ [])) in
    let kind = length-append (decimal m.rank) (32 ∷ decimal m.elements) in
    let r = length_wide m.rank (omega arith) in
    let n = length_wide m.elements (omega arith) in
    omega (arith, whole, few, signs, first, last, behind, kind, r, n, length-map m.signs byte_of)

-- ---- the text

-- the text of a verdict of `decide` on a map has no more bytes than an input may have
pub verdict_short : (m : SignMap) (b : Budgets) (v : Verdict) → IsDecided m b v → length (verdict_text m v) ≤ MAX_INPUT
verdict_short m b v is =
    let d = document_bytes m is.rank is.sound in
    let l = block_bytes m b v is in
    omega (arith, d, l, length-append (printed (chirotope_document m)) (lines_text (block_lines v)))
