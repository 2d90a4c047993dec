-- The lines of a verdict block are read to its end, and from each state some lines complete a block.
--
-- Main results: block_runs, block_completes, block_one_line
use Rattle.std.proofs.Common.{◌≡◌, ℕ, ◌+◌, ◌≤◌, ◌<◌, List, [], ◌∷◌, ◌++◌, Bool, true, false, cond, length, refl, ap}
use Rattle.std.proofs.Common.{◌∙◌, arith, length-append, append_assoc, append-nil}
use Rattle.std.specs.Prelude.{Option, Some, Result, Ok, Err, codes}
use Rattle.std.specs.List.{list_all}
use Rattle.std.proofs.lemmas.Bool.{lt-ltb}
use Rattle.om_document.specs.declared.code.Code.{Code}
use Rattle.om_document.specs.declared.code.Code.TheVariants as code
use Rattle.om_lines.specs.Lines.{is_line, end_line}
use Rattle.om_document.proofs.Feeds.{is_one_line}
use Rattle.om_text.proofs.Language.{run_words, bind, IsCompletion}
use Rattle.om_vectors.specs.WholeVectors.{WholeVector}
use Rattle.om_vectors.specs.declared.unfound.Unfound.{Unfound}
use Rattle.om_vectors.specs.declared.unfound.Unfound.TheVariants as unfound
use Rattle.om_certificate.specs.declared.entry.Entry.{Entry}
use Rattle.om_certificate.specs.declared.weight.Weight.{Weight}
use Rattle.om_certificate.specs.declared.lp_end.LpEnd.{LpEnd}
use Rattle.om_certificate.specs.declared.lp_end.LpEnd.TheVariants as lp_end
use Rattle.om_certificate.specs.declared.verdict.Verdict.{Verdict}
use Rattle.om_certificate.specs.declared.verdict.Verdict.TheVariants as verdict
use Rattle.om_answer.specs.declared.block.Block.{Block}
use Rattle.om_answer.specs.declared.block.Block.TheVariants.{Empty, Vectors, Entries, Weights, Tableau, Pivots, Tested}
use Rattle.om_answer.specs.declared.block.Block.TheVariants.{Exhausted, Frontier, Closed}
use Rattle.om_answer.specs.declared.block.Front.{Front}
use Rattle.om_answer.specs.declared.block.Front.TheVariants as front
use Rattle.om_answer.specs.BlockLines.{vector_of, entry_of, weight_of}
use Rattle.om_reply.specs.VerdictText.{word_line}
use Rattle.om_answer.specs.Block.{AreLinesOf, IsSearchEnd, exhausted, frontier, IsTableauEnd, pivots, width, IsBlock}
use Rattle.om_answer.specs.Block.{realizable, nonrealizable, undecided, limit, MOST_VECTORS, MOST_WEIGHTS}
use Rattle.om_answer.specs.BlockReading.{with_next, searched, ended, block_step, block_value}
use Rattle.om_answer.proofs.BlockForms.{not_line, lines_head, lines_tail, width_no_pivots}

-- the lines of a block in turn
abbrev pub run_block : Block → List (List (List ℕ)) → Result Block Code
run_block = run_words block_step

run_one : (s t : Block) (w : List (List ℕ)) (ws : List (List (List ℕ))) → block_step s w ≡ Ok t
    → run_block s (w ∷ ws) ≡ run_block t ws
run_one s t w ws h = ap (λ r. bind r (λ t. run_block t ws)) h

-- one more item, where there is room
item_step : {A : Type 0} (f : List A → Block) (most : ℕ) (xs : List A) (o : Option A) (x : A) → o ≡ Some x
    → length xs < most → with_next f most xs o ≡ Ok (f (xs ++ x ∷ []))
item_step f most xs o x e h = rw (e, lt-ltb (length xs) most h) refl

vector_step : (vs : List WholeVector) (w : List (List ℕ)) (x : WholeVector) → vector_of w ≡ Some x
    → length vs < MOST_VECTORS → block_step (Vectors vs) w ≡ Ok (Vectors (vs ++ x ∷ []))
vector_step vs w x e h =
    rw (not_line vector_of w end_line x refl e) (item_step Vectors MOST_VECTORS vs (vector_of w) x e h)

frontier_step : (f : Front) (vs : List WholeVector) (w : List (List ℕ)) (x : WholeVector) → vector_of w ≡ Some x
    → length vs < MOST_VECTORS → block_step (Frontier f vs) w ≡ Ok (Frontier f (vs ++ x ∷ []))
frontier_step f vs w x e h =
    rw (not_line vector_of w end_line x refl e) (item_step (Frontier f) MOST_VECTORS vs (vector_of w) x e h)

weight_step : (ws : List Weight) (w : List (List ℕ)) (x : Weight) → weight_of w ≡ Some x → length ws < MOST_WEIGHTS
    → block_step (Weights ws) w ≡ Ok (Weights (ws ++ x ∷ []))
weight_step ws w x e h =
    rw (
      not_line weight_of w (word_line (codes "exhausted")) x refl e,
      not_line weight_of w (word_line (codes "frontier")) x refl e,
    )
    (item_step Weights MOST_WEIGHTS ws (weight_of w) x e h)

entry_step : (es : List Entry) (w : List (List ℕ)) (x : Entry) → entry_of w ≡ Some x
    → block_step (Entries es) w ≡ Ok (Entries (es ++ x ∷ []))
entry_step es w x e = rw (not_line entry_of w end_line x refl e, e) refl

-- lines of items in turn, for a state that takes them one by one
items_run : {A : Type 0} (f : List A → Block) (line_of : List (List ℕ) → Option A) (most : ℕ)
    (one : (xs : List A) (w : List (List ℕ)) (x : A) → line_of w ≡ Some x → length xs < most
    → block_step (f xs) w ≡ Ok (f (xs ++ x ∷ []))) (xs : List A) (ls : List (List (List ℕ))) (ys : List A)
    (more : List (List (List ℕ))) → AreLinesOf line_of ls ys → length xs + length ys ≤ most
    → run_block (f xs) (ls ++ more) ≡ run_block (f (xs ++ ys)) more
items_run f line_of most one xs [] [] more h k = rw (append-nil xs) refl
items_run f line_of most one xs [] (y ∷ ys) more h k = cc
items_run f line_of most one xs (l ∷ ls) [] more h k = cc
items_run f line_of most one xs (l ∷ ls) (y ∷ ys) more h k =
    let n = length-append xs (y ∷ []) in
    let a = run_one (f xs) (f (xs ++ y ∷ [])) l (ls ++ more) (one xs l y (lines_head line_of l ls y ys h) (omega arith))
    in
    let b = items_run f line_of most one (xs ++ y ∷ []) ls ys more (lines_tail line_of l ls y ys h) (omega arith) in
    a ∙ b ∙ ap (λ x. run_block (f x) more) (append_assoc xs (y ∷ []) ys)

-- the end of a search, and the end line
search_run : (f : Front) (s : Block) (search : List (List (List ℕ))) (u : Unfound)
    → ((w : List (List ℕ)) (t : Block) → searched f w (block_step s w) ≡ Ok t → block_step s w ≡ Ok t)
    → IsSearchEnd search u → run_block s (search ++ end_line ∷ []) ≡ Ok (Closed (ended f u))
search_run f s _ _ by exhausted =
    run_one s (Exhausted f) (word_line (codes "exhausted")) (end_line ∷ [])
    (by (word_line (codes "exhausted")) (Exhausted f) refl)
search_run f s _ _ by (frontier ls vs h k) =
    run_one s (Frontier f []) (word_line (codes "frontier")) (ls ++ end_line ∷ [])
    (by (word_line (codes "frontier")) (Frontier f []) refl)
    ∙ items_run (Frontier f) vector_of MOST_VECTORS (frontier_step f) [] ls vs (end_line ∷ []) h (omega arith)

weights_search : (ws : List Weight) (w : List (List ℕ)) (t : Block)
    → searched (front.Weights ws) w (block_step (Weights ws) w) ≡ Ok t → block_step (Weights ws) w ≡ Ok t
weights_search ws w t h = again (is_line w (word_line (codes "exhausted"))) (is_line w (word_line (codes "frontier")))
    (with_next Weights MOST_WEIGHTS ws (weight_of w)) h
  where
    again : (p q : Bool) (r : Result Block Code)
        → cond p (Ok (Exhausted (front.Weights ws)))
        (cond q (Ok (Frontier (front.Weights ws) []))
        (cond p (Ok (Exhausted (front.Weights ws))) (cond q (Ok (Frontier (front.Weights ws) [])) r))) ≡ Ok t
        → cond p (Ok (Exhausted (front.Weights ws))) (cond q (Ok (Frontier (front.Weights ws) [])) r) ≡ Ok t
    again true q r h = h
    again false true r h = h
    again false false r h = h

tested_search : (e : LpEnd) (w : List (List ℕ)) (t : Block)
    → searched (front.Tableau e) w (block_step (Tested e) w) ≡ Ok t → block_step (Tested e) w ≡ Ok t
tested_search e w t h = again (is_line w (word_line (codes "exhausted"))) (is_line w (word_line (codes "frontier"))) h
  where
    again : (p q : Bool)
        → cond p (Ok (Exhausted (front.Tableau e)))
        (cond q (Ok (Frontier (front.Tableau e) []))
        (cond p (Ok (Exhausted (front.Tableau e))) (cond q (Ok (Frontier (front.Tableau e) [])) (Err code.Entry))))
        ≡ Ok t → cond p (Ok (Exhausted (front.Tableau e)))
        (cond q (Ok (Frontier (front.Tableau e) [])) (Err code.Entry)) ≡ Ok t
    again true q h = h
    again false true h = h
    again false false h = h

-- the end of a tableau
tableau_run : (tableau : List (List (List ℕ))) (e : LpEnd) (more : List (List (List ℕ))) → IsTableauEnd tableau e
    → run_block Tableau (tableau ++ more) ≡ run_block (Tested e) more
tableau_run _ _ more (pivots p b count basis h k) =
    run_one Tableau (Pivots count) p (b ∷ more) (rw h refl)
    ∙ run_one (Pivots count) (Tested (lp_end.Pivots count basis)) b more (rw k refl)
tableau_run _ _ more (width w e h) = run_one Tableau (Tested e) w more (rw (width_no_pivots w e h, h) refl)

-- the lines of a block are read to its end
pub block_runs : (ls : List (List (List ℕ))) (v : Verdict) → IsBlock ls v → run_block Empty ls ≡ Ok (Closed v)
block_runs _ _ (realizable ls vs h k) =
    items_run Vectors vector_of MOST_VECTORS vector_step [] ls vs (end_line ∷ []) h (omega arith)
block_runs _ _ (nonrealizable ls es h) =
    items_run Entries entry_of (length es) (λ xs w x e h. entry_step xs w x e) [] ls es (end_line ∷ []) h (omega arith)
block_runs _ _ (undecided ls search ws u h k s) =
    ap (run_block (Weights [])) (append_assoc ls search (end_line ∷ []))
    ∙ items_run Weights weight_of MOST_WEIGHTS weight_step [] ls ws (search ++ end_line ∷ []) h (omega arith)
    ∙ search_run (front.Weights ws) (Weights ws) search u (weights_search ws) s
block_runs _ _ (limit tableau search e u t s) =
    ap (run_block Tableau) (append_assoc tableau search (end_line ∷ []))
    ∙ tableau_run tableau e (search ++ end_line ∷ []) t
    ∙ search_run (front.Tableau e) (Tested e) search u (tested_search e) s

-- from each state some lines complete a block
pub block_completes : (b : Block) → (more : List (List ℕ)) × IsCompletion block_step block_value b more
block_completes Empty = (
  codes "realizable" ∷ codes "end" ∷ [],
  record { last = Closed (verdict.Realizable []); is = verdict.Realizable []; run = refl; gives = refl },
)
block_completes (Vectors vs) = (
  codes "end" ∷ [],
  record { last = Closed (verdict.Realizable vs); is = verdict.Realizable vs; run = refl; gives = refl },
)
block_completes (Entries es) = (
  codes "end" ∷ [],
  record { last = Closed (verdict.Nonrealizable es); is = verdict.Nonrealizable es; run = refl; gives = refl },
)
block_completes (Weights ws) = (
  codes "exhausted" ∷ codes "end" ∷ [],
  record {
    last = Closed (verdict.Undecided ws unfound.Exhausted);
    is = verdict.Undecided ws unfound.Exhausted;
    run =
        refl;
    gives = refl;
  },
)
block_completes Tableau = (
  codes "pivots 0" ∷ codes "basis 1" ∷ codes "exhausted" ∷ codes "end" ∷ [],
  record {
    last = Closed (verdict.Limit (lp_end.Pivots 0 (1 ∷ [])) unfound.Exhausted);
    is =
        verdict.Limit (lp_end.Pivots 0 (1 ∷ [])) unfound.Exhausted;
    run = refl;
    gives = refl;
  },
)
block_completes (Pivots p) = (
  codes "basis 1" ∷ codes "exhausted" ∷ codes "end" ∷ [],
  record {
    last = Closed (verdict.Limit (lp_end.Pivots p (1 ∷ [])) unfound.Exhausted);
    is =
        verdict.Limit (lp_end.Pivots p (1 ∷ [])) unfound.Exhausted;
    run = refl;
    gives = refl;
  },
)
block_completes (Tested e) = (
  codes "exhausted" ∷ codes "end" ∷ [],
  record {
    last = Closed (verdict.Limit e unfound.Exhausted);
    is = verdict.Limit e unfound.Exhausted;
    run = refl;
    gives = refl;
  },
)
block_completes (Exhausted f) = (
  codes "end" ∷ [],
  record { last = Closed (ended f unfound.Exhausted); is = ended f unfound.Exhausted; run = refl; gives = refl },
)
block_completes (Frontier f vs) = (
  codes "end" ∷ [],
  record {
    last = Closed (ended f (unfound.Frontier vs));
    is = ended f (unfound.Frontier vs);
    run = refl;
    gives =
        refl;
  },
)
block_completes (Closed v) = ([], record { last = Closed v; is = v; run = refl; gives = refl })

-- these lines hold no line feed
pub block_one_line : (b : Block) → list_all is_one_line (block_completes b).0 ≡ true
unfolding block_completes
block_one_line Empty = refl
block_one_line (Vectors vs) = refl
block_one_line (Entries es) = refl
block_one_line (Weights ws) = refl
block_one_line Tableau = refl
block_one_line (Pivots p) = refl
block_one_line (Tested e) = refl
block_one_line (Exhausted f) = refl
block_one_line (Frontier f vs) = refl
block_one_line (Closed v) = refl
