-- The lawful statements of a map of rank 3 have columns, and the run over them ends.
--
-- Main results: end_possible.
use Rattle.std.specs.Prelude.{ℕ, ◌≡◌, ◌+◌, ◌-◌, ◌≤◌, List, [], ◌∷◌, ◌++◌, length, map, slice_index, refl}
use Rattle.std.proofs.Common.{zero, suc, sym, subst, arith}
use Rattle.std.proofs.lemmas.List.{length-map, get_or-map}
use Rattle.om_signs.specs.declared.limits.TheConstants.{MAX_ELEMENTS}
use Rattle.om_subsets.specs.Subsets.{choose, rank_of}
use Rattle.om_chirotope.specs.Map.{SignMap}
use Rattle.om_grassmann.specs.declared.statement.Statement.{Statement}
use Rattle.om_grassmann.specs.Order.{AreAll}
use Rattle.om_grassmann.specs.Sides.{first_bracket, second_bracket}
use Rattle.om_rows.specs.declared.column.Column.{Column}
use Rattle.om_simplex.specs.declared.outcome.Outcome.{Outcome}
use Rattle.om_simplex.specs.States.{no_column}
use Rattle.om_decide.specs.Answers.{IsEndOf}
use Rattle.om_decide.specs.Columns.{row_count, IsColumnOf, no_statement, statement_at, AreColumnsOf}
use Rattle.om_decide.specs.Making.{row_at, AreRowsTo}
use Rattle.om_decide.proofs.RowNumbers.{no_rows, one_more}
use Rattle.om_decide.proofs.Walks.{column_made, lawful_here}
use Rattle.om_existence.specs.Possible.{IsPossible}
use Rattle.om_existence.proofs.Possible.{then, mapped}
use Rattle.om_existence.proofs.RunParts.{outcome_possible}
use Rattle.om_existence.proofs.StatementLists.{statements_possible}

-- the numbers of the rows of the first n triples
rows_to : (m : SignMap) (n : ℕ) → (rows : List ℕ) × AreRowsTo m n rows
rows_to m zero = ([], (no_rows m [] refl).rows)
rows_to m (suc n) =
    let h = rows_to m n in
    let e : n + 1 ≡ suc n = omega arith in
    let more = h.0 ++ row_at m n ∷ [] in
    (more, subst (λ k. AreRowsTo m k more) e (one_more m n h.0 (row_at m n) refl h.1))

module _ (m : SignMap) where
  rows : List ℕ
  rows = (rows_to m (choose m.elements 3 + 1)).0

  -- the column of a statement by the numbers of the rows
  abbrev column : Statement → Column
  column st = record {
    small0 = slice_index rows (rank_of m.elements (first_bracket st st.small));
    small1 = slice_index rows (rank_of m.elements (second_bracket st st.small));
    big0 = slice_index rows (rank_of m.elements (first_bracket st st.big));
    big1 = slice_index rows (rank_of m.elements (second_bracket st st.big));
    strict = st.strict;
  }

  are_rows : AreRowsTo m (choose m.elements 3 + 1) rows
  unfolding rows
  are_rows = (rows_to m (choose m.elements 3 + 1)).1

  column_is : (ss : List Statement) (j : ℕ) → AreAll m ss → 1 ≤ j → j ≤ length ss
      → IsColumnOf m (statement_at ss j) (column (statement_at ss j))
  column_is ss j all low high =
      let lawful = lawful_here m ss (j - 1) no_statement all (omega (arith, low, high)) in
      column_made m m.elements rows (statement_at ss j) (column (statement_at ss j)) refl are_rows lawful
      (record { small0 = refl; small1 = refl; big0 = refl; big1 = refl; strict = refl })

  columns_of : (ss : List Statement) → AreAll m ss → AreColumnsOf m ss (map column ss)
  columns_of ss all = record {
    all = all;
    size = length-map ss column;
    each = λ j low high. subst (IsColumnOf m (statement_at ss j))
        (sym (get_or-map column ss (j - 1) no_statement no_column (omega (arith, low, high))))
        (column_is ss j all low high);
  }

  pub end_possible : (pivots : ℕ) → m.rank ≡ 3 → m.elements ≤ MAX_ELEMENTS
      → IsPossible ((o : Outcome) × IsEndOf m pivots o)
  end_possible pivots three few = then (statements_possible m (omega (arith, few))) (λ ss.
      mapped (λ h. (
        h.0,
        record {
          rank = three;
          statements = ss.0;
          columns = map column ss.0;
          are = columns_of ss.0 ss.1;
          end = h.1;
        },
      )) (outcome_possible (map column ss.0) (row_count m) pivots (omega arith)))
