-- The code of a line that a step of a verdict block refuses.
--
-- Main definitions: HasShape
-- Main results: block_error
use Rattle.std.proofs.Math.Bool.{and-false, or-true}
use Rattle.std.proofs.Common.{◌≡◌, ℕ, ◌+◌, List, [], ◌∷◌, ◌++◌, Bool, true, false, cond, length, refl, ap}
use Rattle.std.proofs.Common.{◌∙◌, arith, inl, inr}
use Rattle.std.specs.Prelude.{Option, Some, None, Result, Ok, Err, codes, nat_lt, nat_le, is_some}
use Rattle.std.specs.List.{list_any}
use Rattle.std.proofs.lemmas.List.Folds.{list_any-append}
use Rattle.std.proofs.lemmas.Bool.{le-leb, ltb-false, cases_Bool}
use Rattle.om_document.specs.declared.code.Code.{Code}
use Rattle.om_document.specs.declared.code.Code.TheVariants as code
use Rattle.om_lines.specs.Lines.{is_line, end_line}
use Rattle.om_vectors.specs.WholeVectors.{WholeVector}
use Rattle.om_certificate.specs.declared.entry.Entry.{Entry}
use Rattle.om_certificate.specs.declared.weight.Weight.{Weight}
use Rattle.om_certificate.specs.declared.lp_end.LpEnd.{LpEnd}
use Rattle.om_certificate.specs.declared.verdict.Verdict.{Verdict}
use Rattle.om_answer.specs.declared.block.Block.{Block}
use Rattle.om_answer.specs.declared.block.Block.TheVariants.{Empty, Vectors, Entries, Weights, Tableau, Pivots, Tested}
use Rattle.om_answer.specs.declared.block.Block.TheVariants.{Exhausted, Frontier, Closed}
use Rattle.om_answer.specs.declared.block.Front.{Front}
use Rattle.om_answer.specs.declared.block.Front.TheVariants as front
use Rattle.om_answer.specs.BlockLines.{vector_of, entry_of, weight_of, pivots_of, basis_of, width_of}
use Rattle.om_reply.specs.VerdictText.{word_line}
use Rattle.om_answer.specs.Block.{AreLinesOf, IsTableauEnd, pivots, width, IsBlock, realizable, nonrealizable}
use Rattle.om_answer.specs.Block.{undecided, limit, MOST_VECTORS, MOST_WEIGHTS}
use Rattle.om_answer.specs.BlockReading.{opened, with_next, with_entry, tested, with_tableau, with_basis, searched}
use Rattle.om_answer.specs.BlockReading.{closed, block_step}
use Rattle.om_answer.specs.ClaimFault.{last_passing, code_in_block, code_after_document}
use Rattle.om_answer.proofs.BlockForms.{not_line, lines_not, all_passing, none_passing, last_passing-append}
use Rattle.om_answer.proofs.BlockForms.{vector_no_weight, weight_no_vector, entry_named, pivots_named, basis_named}
use Rattle.om_answer.proofs.BlockForms.{width_named}
use Rattle.om_answer.proofs.BlockParts.{IsFront, IsPart}

-- lines without an end line, of which the last v are vectors and the last w are weights
pub record HasShape (v w : ℕ) (ls : List (List (List ℕ))) : Type 0 where
  pub open_ended : list_any (λ l. is_line l end_line) ls ≡ false
  pub vectors : last_passing (λ l. is_some (vector_of l)) 0 ls ≡ v
  pub weights : last_passing (λ l. is_some (weight_of l)) 0 ls ≡ w

-- the three cases of a line that is refused
none_past : (ls : List (List (List ℕ))) (w : List (List ℕ)) → HasShape 0 0 ls → code_in_block ls w ≡ code.Entry
none_past ls w s =
    rw (s.open_ended, s.vectors, s.weights, and-false (is_some (vector_of w)), and-false (is_some (weight_of w))) refl

no_vector : (k : ℕ) (ls : List (List (List ℕ))) (w : List (List ℕ)) → HasShape k 0 ls → vector_of w ≡ None
    → code_in_block ls w ≡ code.Entry
no_vector k ls w s n = rw (s.open_ended, n, s.weights, and-false (is_some (weight_of w))) refl

no_weight : (k : ℕ) (ls : List (List (List ℕ))) (w : List (List ℕ)) → HasShape 0 k ls → weight_of w ≡ None
    → code_in_block ls w ≡ code.Entry
no_weight k ls w s n = rw (s.open_ended, n, s.vectors, and-false (is_some (vector_of w))) refl

many_vectors : (k : ℕ) (ls : List (List (List ℕ))) (w : List (List ℕ)) (x : WholeVector) → HasShape k 0 ls
    → vector_of w ≡ Some x → nat_le MOST_VECTORS k ≡ true → code_in_block ls w ≡ code.Many
many_vectors k ls w x s e m = rw (s.open_ended, e, s.vectors, m) refl

many_weights : (k : ℕ) (ls : List (List (List ℕ))) (w : List (List ℕ)) (x : Weight) → HasShape 0 k ls
    → weight_of w ≡ Some x → nat_le MOST_WEIGHTS k ≡ true → code_in_block ls w ≡ code.Many
many_weights k ls w x s e m = rw (s.open_ended, e, s.weights, s.vectors, and-false (is_some (vector_of w)), m) refl

full : (k most : ℕ) → nat_lt k most ≡ false → nat_le most k ≡ true
full k most h = let l = ltb-false k most h in le-leb most k l

err_same : (a b : Code) → ◌≡◌ {A = Result Block Code} (Err a) (Err b) → a ≡ b
err_same a b h = cc

-- where a step fails
closed_err : (v : Verdict) (w : List (List ℕ)) (other : Result Block Code) (c : Code) → closed v w other ≡ Err c
    → other ≡ Err c
closed_err v w other c h = elim (cases_Bool (is_line w end_line)) [
  | inl e ↦ let g : ◌≡◌ {A = Result Block Code} (Ok (Closed v)) (Err c) = rw e at h in cc
  | inr n ↦ let g : other ≡ Err c = rw n at h in g
]

searched_err : (f : Front) (w : List (List ℕ)) (other : Result Block Code) (c : Code) → searched f w other ≡ Err c
    → other ≡ Err c
searched_err f w other c h = elim (cases_Bool (is_line w (word_line (codes "exhausted")))) [
  | inl e ↦ let g : ◌≡◌ {A = Result Block Code} (Ok (Exhausted f)) (Err c) = rw e at h in cc
  | inr n ↦
      second (let g : cond (is_line w (word_line (codes "frontier"))) (Ok (Frontier f [])) other ≡ Err c = rw n at h in
      g)
]
  where
    second : cond (is_line w (word_line (codes "frontier"))) (Ok (Frontier f [])) other ≡ Err c → other ≡ Err c
    second h = elim (cases_Bool (is_line w (word_line (codes "frontier")))) [
      | inl e ↦ let g : ◌≡◌ {A = Result Block Code} (Ok (Frontier f [])) (Err c) = rw e at h in cc
      | inr n ↦ let g : other ≡ Err c = rw n at h in g
    ]

next_err : {A : Type 0} (f : List A → Block) (most : ℕ) (xs : List A) (o : Option A) (c : Code) (known : Code)
    → with_next f most xs o ≡ Err c → (o ≡ None → known ≡ code.Entry)
    → ((x : A) → o ≡ Some x → nat_le most (length xs) ≡ true → known ≡ code.Many) → known ≡ c
next_err f most xs None c known h none many = none refl ∙ err_same code.Entry c h
next_err f most xs (Some x) c known h none many = elim (cases_Bool (nat_lt (length xs) most)) [
  | inl e ↦ let g : ◌≡◌ {A = Result Block Code} (Ok (f (xs ++ x ∷ []))) (Err c) = rw e at h in cc
  | inr n ↦ let g : ◌≡◌ {A = Result Block Code} (Err code.Many) (Err c) = rw n at h in
      many x refl (full (length xs) most n) ∙ err_same code.Many c g
]

-- the shapes of the lines after the verdict word
vectors_shape : (ls : List (List (List ℕ))) (vs : List WholeVector) → AreLinesOf vector_of ls vs
    → HasShape (length vs) 0 ls
vectors_shape ls vs h = record {
  open_ended = lines_not vector_of end_line ls vs refl h;
  vectors = let e = all_passing vector_of 0 ls vs h in let z : 0 + length vs ≡ length vs = omega arith in e ∙ z;
  weights = none_passing vector_of weight_of vector_no_weight ls vs h;
}

weights_shape : (ls : List (List (List ℕ))) (ws : List Weight) → AreLinesOf weight_of ls ws → HasShape 0 (length ws) ls
weights_shape ls ws h = record {
  open_ended = lines_not weight_of end_line ls ws refl h;
  vectors = none_passing weight_of vector_of weight_no_vector ls ws h;
  weights = let e = all_passing weight_of 0 ls ws h in let z : 0 + length ws ≡ length ws = omega arith in e ∙ z;
}

entries_shape : (ls : List (List (List ℕ))) (es : List Entry) → AreLinesOf entry_of ls es → HasShape 0 0 ls
entries_shape ls es h = record {
  open_ended = lines_not entry_of end_line ls es refl h;
  vectors = none_passing entry_of vector_of (λ l x e. (entry_named l x e).0) ls es h;
  weights = none_passing entry_of weight_of (λ l x e. (entry_named l x e).1) ls es h;
}

pivots_shape : (l : List (List ℕ)) (p : ℕ) → pivots_of l ≡ Some p → HasShape 0 0 (l ∷ [])
pivots_shape l p h = let n = pivots_named l p h in record {
  open_ended = rw (not_line pivots_of l end_line p refl h) refl;
  vectors = rw n.0 refl;
  weights = rw n.1 refl;
}

tableau_shape : (ls : List (List (List ℕ))) (e : LpEnd) → IsTableauEnd ls e → HasShape 0 0 ls
tableau_shape _ _ (pivots p b count basis h k) = let n = pivots_named p count h in let m = basis_named b basis k in
    record {
      open_ended = rw (not_line pivots_of p end_line count refl h, not_line basis_of b end_line basis refl k) refl;
      vectors = rw (n.0, m.0) refl;
      weights = rw (n.1, m.1) refl;
    }
tableau_shape _ _ (width w e h) = let n = width_named w e h in record {
  open_ended = rw (not_line width_of w end_line e refl h) refl;
  vectors = rw n.0 refl;
  weights = rw n.1 refl;
}

front_open : (f : Front) (ls : List (List (List ℕ))) → IsFront f ls → list_any (λ l. is_line l end_line) ls ≡ false
front_open (front.Weights ws) ls h = (weights_shape ls ws h.items).open_ended
front_open (front.Tableau e) ls h = (tableau_shape ls e h).open_ended

-- behind the line that ends a search the count begins anew
search_shape : (before after : List (List (List ℕ))) (l : List (List ℕ)) (k : ℕ)
    → list_any (λ l. is_line l end_line) before ≡ false → is_line l end_line ≡ false → vector_of l ≡ None
    → weight_of l ≡ None → HasShape k 0 after → HasShape k 0 (before ++ l ∷ after)
search_shape before after l k b n v w s = record {
  open_ended = list_any-append (λ l. is_line l end_line) before (l ∷ after) ∙ rw (b, n, s.open_ended) refl;
  vectors = last_passing-append (λ l. is_some (vector_of l)) 0 before (l ∷ after) ∙ rw v s.vectors;
  weights = last_passing-append (λ l. is_some (weight_of l)) 0 before (l ∷ after) ∙ rw w s.weights;
}

begun_code : (ls rest : List (List (List ℕ))) (name : List ℕ) (w : List (List ℕ)) → ls ≡ word_line name ∷ rest
    → code_after_document ls w ≡ code_in_block rest w
begun_code ls rest name w h = ap (λ x. code_after_document x w) h

-- a whole block has an end line behind its first line
ends_whole : (ls : List (List (List ℕ))) (w : List (List ℕ)) (v : Verdict) → IsBlock ls v
    → code_after_document ls w ≡ code.After
ends_whole _ w _ (realizable ls vs h k) =
    rw (list_any-append (λ l. is_line l end_line) ls (end_line ∷ []), or-true (list_any (λ l. is_line l end_line) ls))
    refl
ends_whole _ w _ (nonrealizable ls es h) =
    rw (list_any-append (λ l. is_line l end_line) ls (end_line ∷ []), or-true (list_any (λ l. is_line l end_line) ls))
    refl
ends_whole _ w _ (undecided ls search ws u h k s) =
    rw (
      list_any-append (λ l. is_line l end_line) (ls ++ search) (end_line ∷ []),
      or-true (list_any (λ l. is_line l end_line) (ls ++ search)),
    ) refl
ends_whole _ w _ (limit ls search e u t s) =
    rw (
      list_any-append (λ l. is_line l end_line) (ls ++ search) (end_line ∷ []),
      or-true (list_any (λ l. is_line l end_line) (ls ++ search)),
    ) refl

opened_err : (w : List (List ℕ)) (c : Code) → opened w ≡ Err c → code.Claim ≡ c
opened_err w c h = first (is_line w (word_line (codes "realizable"))) (is_line w (word_line (codes "nonrealizable")))
    (is_line w (word_line (codes "undecided"))) (is_line w (word_line (codes "limit"))) h
  where
    first : (p q r s : Bool)
        → cond p (Ok (Vectors []))
        (cond q (Ok (Entries [])) (cond r (Ok (Weights [])) (cond s (Ok Tableau) (Err code.Claim)))) ≡ Err c
        → code.Claim ≡ c
    first true q r s h = cc
    first false true r s h = cc
    first false false true s h = cc
    first false false false true h = cc
    first false false false false h = err_same code.Claim c h

-- the code of a line that a step refuses is that of the claim's table
pub block_error : (b : Block) (ls : List (List (List ℕ))) (w : List (List ℕ)) (c : Code) → IsPart b ls
    → block_step b w ≡ Err c → code_after_document ls w ≡ c
block_error Empty ls w c o h = ap (λ x. code_after_document x w) o ∙ opened_err w c h
block_error (Vectors vs) ls w c o h =
    let s = vectors_shape o.rest vs o.is.items in
    begun_code ls o.rest _ w o.lines
    ∙ next_err Vectors MOST_VECTORS vs (vector_of w) c (code_in_block o.rest w) (closed_err _ w _ c h)
    (λ n. no_vector (length vs) o.rest w s n) (λ x e m. many_vectors (length vs) o.rest w x s e m)
block_error (Entries es) ls w c o h = begun_code ls o.rest _ w o.lines
    ∙ none_past o.rest w (entries_shape o.rest es o.is) ∙ entry (entry_of w) (closed_err _ w _ c h)
  where
    entry : (e : Option Entry) → with_entry es e ≡ Err c → code.Entry ≡ c
    entry None h = err_same code.Entry c h
    entry (Some e) h = cc
block_error (Weights ws) ls w c o h =
    let s = weights_shape o.rest ws o.is.items in
    begun_code ls o.rest _ w o.lines
    ∙ next_err Weights MOST_WEIGHTS ws (weight_of w) c (code_in_block o.rest w)
    (searched_err (front.Weights ws) w _ c h) (λ n. no_weight (length ws) o.rest w s n)
    (λ x e m. many_weights (length ws) o.rest w x s e m)
block_error Tableau ls w c o h = begun_code ls o.rest _ w o.lines ∙ ap (λ x. code_in_block x w) o.is
    ∙ none_past [] w (record { open_ended = refl; vectors = refl; weights = refl }) ∙ by (pivots_of w) h
  where
    neither : (e : Option LpEnd) → tested e ≡ Err c → code.Entry ≡ c
    neither None h = err_same code.Entry c h
    neither (Some e) h = cc

    by : (p : Option ℕ) → with_tableau p w ≡ Err c → code.Entry ≡ c
    by None h = neither (width_of w) h
    by (Some p) h = cc
block_error (Pivots p) ls w c o h = begun_code ls o.rest _ w o.lines ∙ ap (λ x. code_in_block x w) o.is.lines
    ∙ none_past (o.is.line ∷ []) w (pivots_shape o.is.line p o.is.count) ∙ by (basis_of w) h
  where
    by : (b : Option (List ℕ)) → with_basis p b ≡ Err c → code.Entry ≡ c
    by None h = err_same code.Entry c h
    by (Some b) h = cc
block_error (Tested e) ls w c o h = begun_code ls o.rest _ w o.lines ∙ none_past o.rest w (tableau_shape o.rest e o.is)
    ∙ err_same code.Entry c (searched_err (front.Tableau e) w _ c h)
block_error (Exhausted f) ls w c o h =
    let s = search_shape o.is.before [] (word_line (codes "exhausted")) 0 (front_open f o.is.before o.is.front) refl
    refl refl (record { open_ended = refl; vectors = refl; weights = refl }) in
    begun_code ls o.rest _ w o.lines ∙ ap (λ x. code_in_block x w) o.is.lines
    ∙ none_past (o.is.before ++ word_line (codes "exhausted") ∷ []) w s
    ∙ err_same code.Entry c (closed_err _ w _ c h)
block_error (Frontier f vs) ls w c o h =
    let s = search_shape o.is.before o.is.after (word_line (codes "frontier")) (length vs)
    (front_open f o.is.before o.is.front) refl refl refl (vectors_shape o.is.after vs o.is.vectors.items) in
    let at = o.is.before ++ word_line (codes "frontier") ∷ o.is.after in
    begun_code ls o.rest _ w o.lines ∙ ap (λ x. code_in_block x w) o.is.lines
    ∙ next_err (Frontier f) MOST_VECTORS vs (vector_of w) c (code_in_block at w) (closed_err _ w _ c h)
    (λ n. no_vector (length vs) at w s n) (λ x e m. many_vectors (length vs) at w x s e m)
block_error (Closed v) ls w c o h = ends_whole ls w v o ∙ err_same code.After c h
