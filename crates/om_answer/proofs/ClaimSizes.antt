-- The evidence of a claim of a limited number of bytes is within the limits of the checker.
--
-- Main definitions: line_bytes
-- Main results: evidence_within
use Rattle.std.proofs.Common.{◌≡◌, ℕ, suc, ◌+◌, ◌*◌, ◌≤◌, List, [], ◌∷◌, ◌++◌, Bool, length, map, filter, ap, arith}
use Rattle.std.proofs.Common.{inl, inr}
use Rattle.std.specs.Prelude.{ℤ, Option, Some, None, IfSome, codes, bytes_eq, nat_eq, option_and_then}
use Rattle.std.proofs.lemmas.Slice.Eq.{bytes_eq-Decides}
use Rattle.std.proofs.lemmas.Bool.{cases_Bool}
use Rattle.om_signs.specs.declared.limits.TheConstants.{MAX_INPUT}
use Rattle.om_lines.specs.Lines.{lines, with_first, uncommented, is_blank, pieces, has_any, words, wordful, end_line}
use Rattle.om_certificate.specs.declared.entry.Entry.{Entry}
use Rattle.om_certificate.specs.declared.verdict.Verdict.{Verdict}
use Rattle.om_certificate.specs.Forms.{IsEntryInForm, IsWeightInForm}
use Rattle.om_reply.specs.declared.claim.Claim.{Claim}
use Rattle.om_reply.proofs.BlockTexts.{word_bytes}
use Rattle.om_answer.specs.Numbers.{numbers_within, AreIn}
use Rattle.om_answer.specs.BlockLines.{entry_ranges, entry_from, strictness, entry_of, weight_of}
use Rattle.om_answer.specs.Block.{AreLinesOf, IsBlock, realizable, nonrealizable, undecided, limit}
use Rattle.om_answer.specs.Claim.{IsClaim}
use Rattle.om_certificate.specs.Verdicts.{HasEvidenceWithinLimits}
use Rattle.om_answer.proofs.BlockForms.{lines_head, lines_tail}
use Rattle.om_answer.proofs.VerdictForms.{some_at, numbers_in, entry_form, weight_form, each_line}

-- ---- the bytes of words and of lines

abbrev pub line_bytes : List (List (List ℕ)) → ℕ
line_bytes [] = 0
line_bytes (l ∷ ls) = word_bytes l + line_bytes ls

line_bytes-append : (xs ys : List (List (List ℕ))) → line_bytes (xs ++ ys) ≡ line_bytes xs + line_bytes ys
line_bytes-append [] ys = omega arith
line_bytes-append (x ∷ xs) ys = let h = line_bytes-append xs ys in omega (arith, h)

first_bytes : (b n : ℕ) (ps : List (List ℕ)) → word_bytes ps ≤ suc n → word_bytes (with_first b ps) ≤ suc (suc n)
first_bytes b n [] h = omega arith
first_bytes b n (p ∷ ps) h = omega (arith, h)

lines_bytes : (bs : List ℕ) → word_bytes (lines bs) ≤ suc (length bs)
lines_bytes [] = omega arith
lines_bytes (b ∷ bs) = elim (cases_Bool (nat_eq b 10)) [
  | inl e ↦ let h = lines_bytes bs in rw e (omega (arith, h))
  | inr n ↦ rw n (first_bytes b (length bs) (lines bs) (lines_bytes bs))
]

pieces_bytes : (bs : List ℕ) → word_bytes (pieces bs) ≤ suc (length bs)
pieces_bytes [] = omega arith
pieces_bytes (b ∷ bs) = elim (cases_Bool (is_blank b)) [
  | inl e ↦ let h = pieces_bytes bs in rw e (omega (arith, h))
  | inr n ↦ rw n (first_bytes b (length bs) (pieces bs) (pieces_bytes bs))
]

kept_bytes : (ps : List (List ℕ)) → word_bytes (filter has_any ps) ≤ word_bytes ps
kept_bytes [] = omega arith
kept_bytes ([] ∷ ps) = let h = kept_bytes ps in omega (arith, h)
kept_bytes ((b ∷ p) ∷ ps) = let h = kept_bytes ps in omega (arith, h)

uncommented_bytes : (bs : List ℕ) → length (uncommented bs) ≤ length bs
uncommented_bytes [] = omega arith
uncommented_bytes (b ∷ bs) = elim (cases_Bool (nat_eq b 35)) [
  | inl e ↦ rw e (omega arith)
  | inr n ↦ let h = uncommented_bytes bs in rw n (omega (arith, h))
]

words_bytes : (line : List ℕ) → word_bytes (words line) ≤ suc (length line)
words_bytes line =
    let a = kept_bytes (pieces (uncommented line)) in
    let b = pieces_bytes (uncommented line) in
    let c = uncommented_bytes line in
    omega (arith, a, b, c)

wordful_bytes : (ls : List (List ℕ)) → line_bytes (wordful ls) ≤ word_bytes ls
wordful_bytes [] = omega arith
wordful_bytes (l ∷ ls) = kept (words l) (words_bytes l) (wordful_bytes ls)
  where
    kept : (w : List (List ℕ)) → word_bytes w ≤ suc (length l) → line_bytes (wordful ls) ≤ word_bytes ls
        → line_bytes (filter has_any (w ∷ map words ls)) ≤ suc (length l) + word_bytes ls
    kept [] h i = omega (arith, i)
    kept (v ∷ ws) h i = omega (arith, h, i)

all_bytes : (bytes : List ℕ) → line_bytes (wordful (lines bytes)) ≤ suc (length bytes)
all_bytes bytes = let a = wordful_bytes (lines bytes) in let b = lines_bytes bytes in omega (arith, a, b)

-- ---- lines of entries

-- the fewest bytes of an entry line
abbrev pub LEAST_ENTRY : ℕ
LEAST_ENTRY = 11

strictness_long : (w : List ℕ) → IfSome (strictness w) (λ strict. length w ≡ 2)
strictness_long w = elim (cases_Bool (bytes_eq w (codes "lt"))) [
  | inl e ↦ rw e (ap length ((bytes_eq-Decides w (codes "lt")).0 e))
  | inr n ↦ elim (cases_Bool (bytes_eq w (codes "eq"))) [
    | inl e ↦ rw (n, e) (ap length ((bytes_eq-Decides w (codes "eq")).0 e))
    | inr m ↦ rw (n, m) tt
  ]
]

words_few : (ws : List (List ℕ)) → length ws ≤ word_bytes ws
words_few [] = omega arith
words_few (w ∷ ws) = let h = words_few ws in omega (arith, h)

entry_long : (w : List (List ℕ)) → IfSome (entry_of w) (λ e. LEAST_ENTRY ≤ word_bytes w)
entry_long [] = tt
entry_long (w ∷ ws) = named (strictness w) (numbers_within entry_ranges ws) (strictness_long w)
    (numbers_in entry_ranges ws)
  where
    made : (o : Option Entry) → 11 ≤ word_bytes (w ∷ ws) → IfSome o (λ e. LEAST_ENTRY ≤ word_bytes (w ∷ ws))
    made None l = tt
    made (Some e) l = l

    named : (o : Option Bool) (p : Option (List ℤ)) → IfSome o (λ strict. length w ≡ 2)
        → IfSome p (λ zs. (length ws ≡ length entry_ranges) × AreIn entry_ranges zs)
        → IfSome (option_and_then (λ strict. option_and_then (entry_from strict) p) o)
        (λ e. LEAST_ENTRY ≤ word_bytes (w ∷ ws))
    named None p h k = tt
    named (Some strict) None h k = tt
    named (Some strict) (Some zs) h k =
        let n : length ws ≡ 8 = k.0 in
        let f = words_few ws in
        made (entry_from strict zs) (omega (arith, n, f, h))

entries_long : (ls : List (List (List ℕ))) (es : List Entry) → AreLinesOf entry_of ls es
    → length es * LEAST_ENTRY ≤ line_bytes ls
entries_long ls [] h = omega arith
entries_long [] (e ∷ es) h = cc
entries_long (l ∷ ls) (e ∷ es) h =
    let a = some_at (λ e. LEAST_ENTRY ≤ word_bytes l) (entry_of l) e (entry_long l) (lines_head entry_of l ls e es h) in
    let b = entries_long ls es (lines_tail entry_of l ls e es h) in
    omega (arith, a, b)

-- ---- blocks

block_within : (ls : List (List (List ℕ))) (v : Verdict) → IsBlock ls v → line_bytes ls ≤ suc MAX_INPUT
    → HasEvidenceWithinLimits v
block_within _ _ (realizable ls vs h k) size = tt
block_within _ _ (nonrealizable ls es h) size =
    let a = line_bytes-append ls (end_line ∷ []) in
    let b = entries_long ls es h in
    record {
      few = omega (arith, a, b, size);
      counted =
          λ k d l. (each_line IsEntryInForm entry_of entry_form ls es h k d l).times;
    }
block_within _ _ (undecided ls search ws u h k s) size =
    record {
      few = omega (arith, k);
      small =
          λ k d l. (each_line IsWeightInForm weight_of weight_form ls ws h k d l).size;
    }
block_within _ _ (limit tableau search e u t s) size = tt

-- what is claimed of an input that isn't too long
pub evidence_within : (bytes : List ℕ) (c : Claim) → IsClaim (lines bytes) c → length bytes ≤ MAX_INPUT
    → HasEvidenceWithinLimits c.verdict
evidence_within bytes c h few =
    let a = all_bytes bytes in
    let b = line_bytes-append h.document h.block in
    let e = ap line_bytes h.lines in
    block_within h.block c.verdict h.verdict (omega (arith, a, b, e, few))
