-- What is printed of a verdict is a block of this verdict, and behind the chirotope's document it is a claim.
--
-- Main results: block_read, claim_read
use Rattle.std.proofs.Common.{◌≡◌, ℕ, List, [], ◌∷◌, ◌++◌, true, ◌&&◌, map, refl, sym, ap, subst, ◌∙◌}
use Rattle.std.specs.Prelude.{codes, decimal}
use Rattle.std.specs.List.{list_all}
use Rattle.std.proofs.lemmas.List.Folds.{list_all-append}
use Rattle.om_chirotope.specs.Map.{SignMap}
use Rattle.om_vectors.specs.WholeVectors.{IsWithinLimit}
use Rattle.om_vectors.specs.declared.unfound.Unfound.{Unfound}
use Rattle.om_vectors.specs.declared.unfound.Unfound.TheVariants.{Exhausted, Frontier}
use Rattle.om_certificate.specs.declared.lp_end.LpEnd.{LpEnd}
use Rattle.om_certificate.specs.declared.lp_end.LpEnd.TheVariants as lp_end
use Rattle.om_certificate.specs.declared.verdict.Verdict.{Verdict}
use Rattle.om_certificate.specs.declared.verdict.Verdict.TheVariants.{Realizable, Nonrealizable, Undecided, Limit}
use Rattle.om_certificate.specs.Forms.{IsEntryInForm, IsWeightInForm, IsEndInForm, IsSearchInForm, IsVerdictInForm}
use Rattle.om_lines.specs.Lines.{lines, wordful, end_line}
use Rattle.om_document.specs.Form.{IsInForm}
use Rattle.om_document.specs.Print.{spaced, printed_lines}
use Rattle.om_document.proofs.Feeds.{one_line-append, lines_text as lines_of_text}
use Rattle.om_lines.proofs.WordLines.{wordful-append}
use Rattle.om_document.proofs.Printing.{text_of-append}
use Rattle.om_document.proofs.Reread.{printed_one_line, printed_spelled}
use Rattle.om_document.proofs.Texts.{is_word_line, wordful_spaced, spaced_one_lines}
use Rattle.om_answer.specs.BlockLines.{vector_of, entry_of, weight_of}
use Rattle.om_answer.specs.Block.{IsSearchEnd, IsTableauEnd, IsBlock, exhausted, frontier, pivots, width, realizable}
use Rattle.om_answer.specs.Block.{nonrealizable, undecided, limit}
use Rattle.om_answer.specs.Claim.{IsClaim, IsSpelledClaim}
use Rattle.om_reply.specs.VerdictText.{vector_words, entry_words, weight_words, search_lines, tableau_lines}
use Rattle.om_reply.specs.VerdictText.{block_lines, chirotope_document, verdict_text, claim_of}
use Rattle.om_answer.proofs.Spelled.{vector_line, entry_line, weight_line, pivots_line, basis_line, width_line}
use Rattle.om_answer.proofs.Spelled.{all_lines}

-- lines of words that end a search, or a tableau
record IsSearch (ls : List (List (List ℕ))) (u : Unfound) : Type 0 where
  ends : IsSearchEnd ls u
  words : list_all is_word_line ls ≡ true

search_read : (u : Unfound) → IsSearchInForm u → IsSearch (search_lines u) u
search_read Exhausted h = record { ends = exhausted; words = refl }
search_read (Frontier vs) h =
    let r = all_lines IsWithinLimit vector_of vector_words vector_line vs h.each in
    record { ends = frontier (map vector_words vs) vs r.values h.few; words = r.words }

record IsTableau (ls : List (List (List ℕ))) (e : LpEnd) : Type 0 where
  ends : IsTableauEnd ls e
  words : list_all is_word_line ls ≡ true

tableau_read : (e : LpEnd) → IsEndInForm e → IsTableau (tableau_lines e) e
tableau_read (lp_end.Pivots count basis) h =
    let p = pivots_line count h.budget in
    let b = basis_line basis h.some h.plain in
    record {
      ends = pivots _ _ count basis p.value b.value;
      words = ap (λ a. a && list_all is_word_line ((codes "basis" ∷ map decimal basis) ∷ [])) p.words
          ∙ ap (λ a. a && true) b.words;
    }
tableau_read (lp_end.Width s p r c) h =
    let w = width_line s p r c h in
    record { ends = width _ _ w.value; words = ap (λ a. a && true) w.words }

-- the lines of a block are lines of words, and say the verdict
pub record IsSaid (v : Verdict) : Type 0 where
  pub block : IsBlock (block_lines v) v
  pub words : list_all is_word_line (block_lines v) ≡ true

-- lines of words, then others, and then the line `end`
closed_words : (ls ks : List (List (List ℕ))) → list_all is_word_line ls ≡ true → list_all is_word_line ks ≡ true
    → list_all is_word_line ((ls ++ ks) ++ end_line ∷ []) ≡ true
closed_words ls ks h g = list_all-append is_word_line (ls ++ ks) (end_line ∷ []) ∙ ap (λ a. a && true) both_words
  where
    both_words : list_all is_word_line (ls ++ ks) ≡ true
    both_words = list_all-append is_word_line ls ks ∙ rw (h, g) refl

one_closed : (ls : List (List (List ℕ))) → list_all is_word_line ls ≡ true
    → list_all is_word_line (ls ++ end_line ∷ []) ≡ true
one_closed ls h = list_all-append is_word_line ls (end_line ∷ []) ∙ rw h refl

pub block_read : (v : Verdict) → IsVerdictInForm v → IsSaid v
block_read (Realizable vs) h =
    let r = all_lines IsWithinLimit vector_of vector_words vector_line vs h.each in
    record {
      block = realizable (map vector_words vs) vs r.values h.few;
      words =
          one_closed (map vector_words vs) r.words;
    }
block_read (Nonrealizable es) h =
    let r = all_lines IsEntryInForm entry_of entry_words entry_line es h in
    record { block = nonrealizable (map entry_words es) es r.values; words = one_closed (map entry_words es) r.words }
block_read (Undecided ws u) h =
    let r = all_lines IsWeightInForm weight_of weight_words weight_line ws h.0.each in
    let s = search_read u h.1 in
    record {
      block = undecided (map weight_words ws) (search_lines u) ws u r.values h.0.few s.ends;
      words = closed_words (map weight_words ws) (search_lines u) r.words s.words;
    }
block_read (Limit e u) h =
    let t = tableau_read e h.0 in
    let s = search_read u h.1 in
    record {
      block = limit (tableau_lines e) (search_lines u) e u t.ends s.ends;
      words = closed_words (tableau_lines e) (search_lines u) t.words s.words;
    }

-- the text of a verdict on a chirotope is the claim of both
pub claim_read : (m : SignMap) (v : Verdict) → IsInForm (chirotope_document m) → IsVerdictInForm v
    → IsClaim (lines (verdict_text m v)) (claim_of m v)
claim_read m v d h =
    let top = printed_lines (chirotope_document m) in
    let b = block_read v h in
    let behind = map spaced (block_lines v) in
    let whole : lines (verdict_text m v) ≡ top ++ behind = ap lines (sym (text_of-append top behind))
    ∙ lines_of_text (top ++ behind)
    (one_line-append top behind (printed_one_line (chirotope_document m) d)
    (spaced_one_lines (block_lines v) b.words)) in
    let s : IsSpelledClaim (wordful (top ++ behind)) (claim_of m v) = record {
      document = wordful top;
      block = block_lines v;
      lines = wordful-append top behind ∙ ap (λ ls. wordful top ++ ls) (wordful_spaced (block_lines v) b.words);
      spelled = printed_spelled (chirotope_document m) d;
      verdict = b.block;
    } in
    subst (λ ls. IsClaim ls (claim_of m v)) (sym whole) s
