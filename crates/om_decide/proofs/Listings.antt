-- The lawful statements of a map, their columns and the end of the run over them are determined.
--
-- Main results: one_listing, same_columns and one_end.
use Rattle.std.specs.Prelude.{ℕ, ◌≡◌, ◌+◌, ◌-◌, ◌⊎◌, List, [], ◌∷◌}
use Rattle.std.specs.List.{Contains}
use Rattle.std.proofs.Common.{arith, sym, ◌∙◌, ap, subst, refl, inl, inr, get_or}
use Rattle.std.proofs.lemmas.List.{ext_get_or}
use Rattle.om_signs.proofs.Contained.{none_contained, contains_first, contains_later, first_or_later}
use Rattle.om_chirotope.specs.Map.{SignMap}
use Rattle.om_grassmann.specs.declared.statement.Statement.{Statement}
use Rattle.om_grassmann.specs.Order.{IsBefore, IsIncreasing, AreAll}
use Rattle.om_grassmann.proofs.OrderLaws.{before_self, before_then}
use Rattle.om_grassmann.proofs.Counting.{increasing_tail, head_before}
use Rattle.om_rows.specs.declared.column.Column.{Column}
use Rattle.om_simplex.specs.declared.outcome.Outcome.{Outcome}
use Rattle.om_simplex.specs.States.{column_of, no_column}
use Rattle.om_simplex.specs.Outcomes.{IsOutcome}
use Rattle.om_simplex.proofs.OneEnd.{one_outcome}
use Rattle.om_decide.specs.Columns.{AreColumnsOf, IsColumnOf, row_count}
use Rattle.om_decide.specs.Answers.{IsEndOf}
use Rattle.om_decide.proofs.Rows.{row_injective}

-- ---- statements

-- increasing statements are determined by their members
one_list : (ss ts : List Statement) → IsIncreasing ss → IsIncreasing ts
    → ((s : Statement) → Contains ss s → Contains ts s) → ((s : Statement) → Contains ts s → Contains ss s) → ss ≡ ts
one_list [] [] h g f b = refl
one_list [] (t ∷ ts) h g f b = absurd (none_contained t (b t (contains_first t ts)))
one_list (s ∷ ss) [] h g f b = absurd (none_contained s (f s (contains_first s ss)))
one_list (s ∷ ss) (t ∷ ts) h g f b =
    let e = heads (first_or_later t ts s (f s (contains_first s ss)))
    (first_or_later s ss t (b t (contains_first t ts))) in
    ap (λ x. x ∷ ss) e
    ∙ ap (λ xs. t ∷ xs)
    (one_list ss ts (increasing_tail s ss h) (increasing_tail t ts g)
    (λ x m. forth e x m (first_or_later t ts x (f x (contains_later s ss x m))))
    (λ x m. back e x m (first_or_later s ss x (b x (contains_later t ts x m)))))
  where
    heads : (t ≡ s) ⊎ Contains ts s → (s ≡ t) ⊎ Contains ss t → s ≡ t
    heads (inl e) q = sym e
    heads (inr m) (inl e) = e
    heads (inr m) (inr n) = absurd (before_self s (before_then s t s (head_before s ss t h n) (head_before t ts s g m)))

    forth : s ≡ t → (x : Statement) → Contains ss x → (t ≡ x) ⊎ Contains ts x → Contains ts x
    forth e x m (inl q) = absurd (before_self s (subst (IsBefore s) (sym (e ∙ q)) (head_before s ss x h m)))
    forth e x m (inr n) = n

    back : s ≡ t → (x : Statement) → Contains ts x → (s ≡ x) ⊎ Contains ss x → Contains ss x
    back e x m (inl q) = absurd (before_self t (subst (IsBefore t) (sym (sym e ∙ q)) (head_before t ts x g m)))
    back e x m (inr n) = n

pub one_listing : (m : SignMap) (ss ts : List Statement) → AreAll m ss → AreAll m ts → ss ≡ ts
one_listing m ss ts h g = one_list ss ts h.increasing g.increasing (λ s k. (g.members s).1 ((h.members s).0 k))
    (λ s k. (h.members s).1 ((g.members s).0 k))

-- ---- columns

same_column : (m : SignMap) (s : Statement) (c d : Column) → IsColumnOf m s c → IsColumnOf m s d → c ≡ d
same_column m s c d h g =
    ap (λ x. let k : Column = record { small0 = x; small1 = c.small1; big0 = c.big0; big1 = c.big1; strict = c.strict }
    in k) (row_injective m _ c.small0 d.small0 h.small0 g.small0)
    ∙ ap (λ x. let k : Column =
    record { small0 = d.small0; small1 = x; big0 = c.big0; big1 = c.big1; strict = c.strict } in k)
    (row_injective m _ c.small1 d.small1 h.small1 g.small1)
    ∙ ap (λ x. let k : Column =
    record { small0 = d.small0; small1 = d.small1; big0 = x; big1 = c.big1; strict = c.strict } in k)
    (row_injective m _ c.big0 d.big0 h.big0 g.big0)
    ∙ ap (λ x. let k : Column =
    record { small0 = d.small0; small1 = d.small1; big0 = d.big0; big1 = x; strict = c.strict } in k)
    (row_injective m _ c.big1 d.big1 h.big1 g.big1)
    ∙ ap (λ x. let k : Column =
    record { small0 = d.small0; small1 = d.small1; big0 = d.big0; big1 = d.big1; strict = x } in k)
    (h.strict ∙ sym g.strict)

pub same_columns : (m : SignMap) (ss : List Statement) (cs ds : List Column) → AreColumnsOf m ss cs
    → AreColumnsOf m ss ds → cs ≡ ds
same_columns m ss cs ds h g = ext_get_or no_column cs ds (h.size ∙ sym g.size) (λ i l.
    let e = h.size in
    let f : i + 1 - 1 ≡ i = omega arith in
    let q : column_of cs (i + 1) ≡ column_of ds (i + 1) =
    same_column m _ (column_of cs (i + 1)) (column_of ds (i + 1)) (h.each (i + 1) (omega arith) (omega arith))
    (g.each (i + 1) (omega arith) (omega arith)) in
    ap (λ j. get_or cs j no_column) (sym f) ∙ q ∙ ap (λ j. get_or ds j no_column) f)

-- ---- the end of the run

pub one_end : (m : SignMap) (pivots : ℕ) (o p : Outcome) → IsEndOf m pivots o → IsEndOf m pivots p → o ≡ p
one_end m pivots o p h g =
    let e = one_listing m h.statements g.statements h.are.all g.are.all in
    let c = same_columns m g.statements h.columns g.columns (subst (λ ss. AreColumnsOf m ss h.columns) e h.are) g.are in
    one_outcome g.columns (row_count m) pivots o p (subst (λ cs. IsOutcome cs (row_count m) pivots o) c h.end) g.end
