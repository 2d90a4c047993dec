-- The state in a verdict block after one more line.
--
-- Main results: block_shows
use Rattle.std.proofs.Common.{◌≡◌, ℕ, ◌<◌, List, [], ◌∷◌, ◌++◌, true, cond, length, refl, sym, ap, subst, ◌∙◌, arith}
use Rattle.std.proofs.Common.{inl, inr, length-append, append_assoc}
use Rattle.std.specs.Prelude.{Option, Some, None, Result, Ok, Err, codes}
use Rattle.std.proofs.lemmas.Bool.{cases_Bool}
use Rattle.om_signs.proofs.Results.{ok-injective}
use Rattle.om_document.specs.declared.code.Code.{Code}
use Rattle.om_document.specs.declared.code.Code.TheVariants as code
use Rattle.om_lines.specs.Lines.{is_line, end_line}
use Rattle.om_lines.proofs.WordLines.{is_line-Decides}
use Rattle.om_vectors.specs.declared.unfound.Unfound.{Unfound}
use Rattle.om_vectors.specs.declared.unfound.Unfound.TheVariants as unfound
use Rattle.om_certificate.specs.declared.entry.Entry.{Entry}
use Rattle.om_certificate.specs.declared.lp_end.LpEnd.{LpEnd}
use Rattle.om_certificate.specs.declared.verdict.Verdict.TheVariants as verdict
use Rattle.om_answer.specs.declared.block.Block.{Block}
use Rattle.om_answer.specs.declared.block.Block.TheVariants.{Empty, Vectors, Entries, Weights, Tableau, Pivots, Tested}
use Rattle.om_answer.specs.declared.block.Block.TheVariants.{Exhausted, Frontier, Closed}
use Rattle.om_answer.specs.declared.block.Front.{Front}
use Rattle.om_answer.specs.declared.block.Front.TheVariants as front
use Rattle.om_answer.specs.BlockLines.{vector_of, entry_of, weight_of, pivots_of, basis_of, width_of}
use Rattle.om_reply.specs.VerdictText.{word_line}
use Rattle.om_answer.specs.Block.{IsSearchEnd, exhausted, frontier, pivots, width, IsBlock, realizable, nonrealizable}
use Rattle.om_answer.specs.Block.{undecided, limit, MOST_VECTORS, MOST_WEIGHTS}
use Rattle.om_answer.specs.BlockReading.{opened, with_next, with_entry, tested, with_tableau, with_basis, searched}
use Rattle.om_answer.specs.BlockReading.{ended, block_step}
use Rattle.om_answer.proofs.BlockForms.{lines_more}
use Rattle.om_answer.proofs.BlockParts.{AreFewLinesOf, IsFront, front_name, verdict_name, IsRest, IsBegun, IsPart}
use Rattle.om_answer.proofs.BlockParts.{closed_ok, searched_ok, next_ok}

few_more : {A : Type 0} (f : List (List ℕ) → Option A) (most : ℕ) (ls : List (List (List ℕ))) (xs : List A)
    (l : List (List ℕ)) (x : A) → AreFewLinesOf f most ls xs → length xs < most → f l ≡ Some x
    → AreFewLinesOf f most (ls ++ l ∷ []) (xs ++ x ∷ [])
few_more f most ls xs l x h m e = record {
  items = lines_more f ls xs l x h.items e;
  few = let n = length-append xs (x ∷ []) in omega arith;
}

no_items : {A : Type 0} (f : List (List ℕ) → Option A) (most : ℕ) → AreFewLinesOf f most [] []
no_items f most = record { items = refl; few = omega arith }

-- a part that has begun, with one more line
more_lines : (ls rest : List (List (List ℕ))) (name : List ℕ) (w : List (List ℕ)) → ls ≡ word_line name ∷ rest
    → ls ++ w ∷ [] ≡ word_line name ∷ (rest ++ w ∷ [])
more_lines ls rest name w h = ap (λ x. x ++ w ∷ []) h

opened_shows : (w : List (List ℕ)) (t : Block) → opened w ≡ Ok t → IsPart t (w ∷ [])
opened_shows w t h = first h
  where
    begun : (b : Block) (name : List ℕ) → is_line w (word_line name) ≡ true → verdict_name b ≡ name → IsRest b []
        → IsBegun b (w ∷ [])
    begun b name e n r =
        record {
          rest = [];
          lines = ap (λ x. x ∷ []) ((is_line-Decides w (word_line name)).0 e)
              ∙ ap (λ x. word_line x ∷ []) (sym n);
          is = r;
        }

    fourth : cond (is_line w (word_line (codes "limit"))) (Ok Tableau) (Err code.Claim) ≡ Ok t → IsPart t (w ∷ [])
    fourth h = elim (cases_Bool (is_line w (word_line (codes "limit")))) [
      | inl e ↦ let g : ◌≡◌ {A = Result Block Code} (Ok Tableau) (Ok t) = rw e at h in
          subst (λ b. IsPart b (w ∷ [])) (ok-injective Tableau t g) (begun Tableau (codes "limit") e refl refl)
      | inr n ↦ let g : ◌≡◌ {A = Result Block Code} (Err code.Claim) (Ok t) = rw n at h in cc
    ]

    third : cond (is_line w (word_line (codes "undecided"))) (Ok (Weights []))
        (cond (is_line w (word_line (codes "limit"))) (Ok Tableau) (Err code.Claim)) ≡ Ok t → IsPart t (w ∷ [])
    third h = elim (cases_Bool (is_line w (word_line (codes "undecided")))) [
      | inl e ↦ let g : ◌≡◌ {A = Result Block Code} (Ok (Weights [])) (Ok t) = rw e at h in
          subst (λ b. IsPart b (w ∷ [])) (ok-injective (Weights []) t g)
          (begun (Weights []) (codes "undecided") e refl (no_items weight_of MOST_WEIGHTS))
      | inr n ↦
          fourth (let g : cond (is_line w (word_line (codes "limit"))) (Ok Tableau) (Err code.Claim) ≡ Ok t =
          rw n at h in g)
    ]

    second : cond (is_line w (word_line (codes "nonrealizable"))) (Ok (Entries []))
        (cond (is_line w (word_line (codes "undecided"))) (Ok (Weights []))
        (cond (is_line w (word_line (codes "limit"))) (Ok Tableau) (Err code.Claim))) ≡ Ok t → IsPart t (w ∷ [])
    second h = elim (cases_Bool (is_line w (word_line (codes "nonrealizable")))) [
      | inl e ↦ let g : ◌≡◌ {A = Result Block Code} (Ok (Entries [])) (Ok t) = rw e at h in
          subst (λ b. IsPart b (w ∷ [])) (ok-injective (Entries []) t g)
          (begun (Entries []) (codes "nonrealizable") e refl refl)
      | inr n ↦
          third (let g : cond (is_line w (word_line (codes "undecided"))) (Ok (Weights []))
          (cond (is_line w (word_line (codes "limit"))) (Ok Tableau) (Err code.Claim)) ≡ Ok t = rw n at h in g)
    ]

    first : opened w ≡ Ok t → IsPart t (w ∷ [])
    first h = elim (cases_Bool (is_line w (word_line (codes "realizable")))) [
      | inl e ↦ let g : ◌≡◌ {A = Result Block Code} (Ok (Vectors [])) (Ok t) = rw e at h in
          subst (λ b. IsPart b (w ∷ [])) (ok-injective (Vectors []) t g)
          (begun (Vectors []) (codes "realizable") e refl (no_items vector_of MOST_VECTORS))
      | inr n ↦
          second (let g : cond (is_line w (word_line (codes "nonrealizable"))) (Ok (Entries []))
          (cond (is_line w (word_line (codes "undecided"))) (Ok (Weights []))
          (cond (is_line w (word_line (codes "limit"))) (Ok Tableau) (Err code.Claim))) ≡ Ok t = rw n at h in g)
    ]

-- a whole block: the lines of a front, those of a search end, and the end line
whole : (f : Front) (u : Unfound) (before search : List (List (List ℕ))) → IsFront f before → IsSearchEnd search u
    → IsBlock (word_line (front_name f) ∷ before ++ search ++ end_line ∷ []) (ended f u)
whole (front.Weights ws) u before search i s = undecided before search ws u i.items i.few s
whole (front.Tableau e) u before search i s = limit before search e u i s

-- after the lines of a front
search_shows : (f : Front) (ls rest : List (List (List ℕ))) (w : List (List ℕ)) (t : Block) (other : Result Block Code)
    → ls ≡ word_line (front_name f) ∷ rest → IsFront f rest → (other ≡ Ok t → IsPart t (ls ++ w ∷ []))
    → searched f w other ≡ Ok t → IsPart t (ls ++ w ∷ [])
search_shows f ls rest w t other l i next h = elim (searched_ok f w other t h) [
  | inl (e, q) ↦
      subst (λ b. IsPart b (ls ++ w ∷ [])) q
      (record {
        rest = rest ++ w ∷ [];
        lines = more_lines ls rest (front_name f) w l;
        is =
            record { before = rest; lines = ap (λ x. rest ++ x ∷ []) e; front = i };
      })
  | inr (inl (e, q)) ↦
      subst (λ b. IsPart b (ls ++ w ∷ [])) q
      (record {
        rest = rest ++ w ∷ [];
        lines = more_lines ls rest (front_name f) w l;
        is =
            record {
              before = rest;
              after = [];
              lines = ap (λ x. rest ++ x ∷ []) e;
              front = i;
              vectors =
                  no_items vector_of MOST_VECTORS;
            };
      })
  | inr (inr g) ↦ next g
]

-- a step goes on to a state that stands for one line more
pub block_shows : (b : Block) (ls : List (List (List ℕ))) (w : List (List ℕ)) (t : Block) → IsPart b ls
    → block_step b w ≡ Ok t → IsPart t (ls ++ w ∷ [])
block_shows Empty ls w t o h = subst (λ x. IsPart t (x ++ w ∷ [])) (sym o) (opened_shows w t h)
block_shows (Vectors vs) ls w t o h = elim (closed_ok _ w _ t h) [
  | inl (e, q) ↦
      subst (λ b. IsPart b (ls ++ w ∷ [])) q
      (subst (λ x. IsBlock x (verdict.Realizable vs))
      (sym (ap (λ x. ls ++ x ∷ []) e ∙ ap (λ x. x ++ end_line ∷ []) o.lines))
      (realizable o.rest vs o.is.items o.is.few))
  | inr g ↦ let n = next_ok Vectors MOST_VECTORS vs (vector_of w) t g in
      subst (λ b. IsPart b (ls ++ w ∷ [])) n.3
      (record {
        rest = o.rest ++ w ∷ [];
        lines = more_lines ls o.rest (codes "realizable") w o.lines;
        is =
            few_more vector_of MOST_VECTORS o.rest vs w n.0 o.is n.2 n.1;
      })
]
block_shows (Entries es) ls w t o h = elim (closed_ok _ w _ t h) [
  | inl (e, q) ↦
      subst (λ b. IsPart b (ls ++ w ∷ [])) q
      (subst (λ x. IsBlock x (verdict.Nonrealizable es))
      (sym (ap (λ x. ls ++ x ∷ []) e ∙ ap (λ x. x ++ end_line ∷ []) o.lines)) (nonrealizable o.rest es o.is))
  | inr g ↦ more (entry_of w) refl g
]
  where
    more : (p : Option Entry) → entry_of w ≡ p → with_entry es p ≡ Ok t → IsPart t (ls ++ w ∷ [])
    more None e g = cc
    more (Some x) e g = subst (λ b. IsPart b (ls ++ w ∷ [])) (ok-injective (Entries (es ++ x ∷ [])) t g)
        (record {
          rest = o.rest ++ w ∷ [];
          lines = more_lines ls o.rest (codes "nonrealizable") w o.lines;
          is =
              lines_more entry_of o.rest es w x o.is e;
        })
block_shows (Weights ws) ls w t o h = search_shows (front.Weights ws) ls o.rest w t _ o.lines o.is more h
  where
    more : with_next Weights MOST_WEIGHTS ws (weight_of w) ≡ Ok t → IsPart t (ls ++ w ∷ [])
    more g = let n = next_ok Weights MOST_WEIGHTS ws (weight_of w) t g in
        subst (λ b. IsPart b (ls ++ w ∷ [])) n.3
        (record {
          rest = o.rest ++ w ∷ [];
          lines = more_lines ls o.rest (codes "undecided") w o.lines;
          is =
              few_more weight_of MOST_WEIGHTS o.rest ws w n.0 o.is n.2 n.1;
        })
block_shows Tableau ls w t o h = by (pivots_of w) refl h
  where
    one : ls ++ w ∷ [] ≡ word_line (codes "limit") ∷ w ∷ []
    one = more_lines ls o.rest (codes "limit") w o.lines ∙ ap (λ x. word_line (codes "limit") ∷ (x ++ w ∷ [])) o.is

    width_at : (e : Option LpEnd) → width_of w ≡ e → tested e ≡ Ok t → IsPart t (ls ++ w ∷ [])
    width_at None q g = cc
    width_at (Some e) q g = subst (λ b. IsPart b (ls ++ w ∷ [])) (ok-injective (Tested e) t g)
        (record { rest = w ∷ []; lines = one; is = width w e q })

    by : (p : Option ℕ) → pivots_of w ≡ p → with_tableau p w ≡ Ok t → IsPart t (ls ++ w ∷ [])
    by None q g = width_at (width_of w) refl g
    by (Some p) q g = subst (λ b. IsPart b (ls ++ w ∷ [])) (ok-injective (Pivots p) t g)
        (record { rest = w ∷ []; lines = one; is = record { line = w; lines = refl; count = q } })
block_shows (Pivots p) ls w t o h = by (basis_of w) refl h
  where
    two : ls ++ w ∷ [] ≡ word_line (codes "limit") ∷ o.is.line ∷ w ∷ []
    two = more_lines ls o.rest (codes "limit") w o.lines
        ∙ ap (λ x. word_line (codes "limit") ∷ (x ++ w ∷ [])) o.is.lines

    by : (b : Option (List ℕ)) → basis_of w ≡ b → with_basis p b ≡ Ok t → IsPart t (ls ++ w ∷ [])
    by None q g = cc
    by (Some b) q g = subst (λ s. IsPart s (ls ++ w ∷ [])) (ok-injective _ t g)
        (record { rest = o.is.line ∷ w ∷ []; lines = two; is = pivots o.is.line w p b o.is.count q })
block_shows (Tested e) ls w t o h = search_shows (front.Tableau e) ls o.rest w t _ o.lines o.is (λ g. cc) h
block_shows (Exhausted f) ls w t o h = elim (closed_ok _ w _ t h) [
  | inl (e, q) ↦
      subst (λ b. IsPart b (ls ++ w ∷ [])) q
      (subst (λ x. IsBlock x (ended f unfound.Exhausted))
      (sym (ap (λ x. ls ++ x ∷ []) e
      ∙ ap (λ x. x ++ end_line ∷ []) (o.lines ∙ ap (λ x. word_line (front_name f) ∷ x) o.is.lines)))
      (whole f unfound.Exhausted o.is.before (word_line (codes "exhausted") ∷ []) o.is.front exhausted))
  | inr g ↦ cc
]
block_shows (Frontier f vs) ls w t o h = elim (closed_ok _ w _ t h) [
  | inl (e, q) ↦
      subst (λ b. IsPart b (ls ++ w ∷ [])) q
      (subst (λ x. IsBlock x (ended f (unfound.Frontier vs)))
      (sym (ap (λ x. ls ++ x ∷ []) e
      ∙ ap (λ x. x ++ end_line ∷ []) (o.lines ∙ ap (λ x. word_line (front_name f) ∷ x) o.is.lines)))
      (whole f (unfound.Frontier vs) o.is.before (word_line (codes "frontier") ∷ o.is.after) o.is.front
      (frontier o.is.after vs o.is.vectors.items o.is.vectors.few)))
  | inr g ↦ let n = next_ok (Frontier f) MOST_VECTORS vs (vector_of w) t g in
      subst (λ b. IsPart b (ls ++ w ∷ [])) n.3 (record {
        rest = o.rest ++ w ∷ [];
        lines = more_lines ls o.rest (front_name f) w o.lines;
        is = record {
          before = o.is.before;
          after = o.is.after ++ w ∷ [];
          lines = ap (λ x. x ++ w ∷ []) o.is.lines
              ∙ append_assoc o.is.before (word_line (codes "frontier") ∷ o.is.after) (w ∷ []);
          front = o.is.front;
          vectors = few_more vector_of MOST_VECTORS o.is.after vs w n.0 o.is.vectors n.2 n.1;
        };
      })
]
block_shows (Closed v) ls w t o h = cc
