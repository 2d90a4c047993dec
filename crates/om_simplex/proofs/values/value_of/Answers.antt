use Rattle.std.proofs.Common.{arith, ◌∙◌, sym, ap, subst, refl, get_or}
use Rattle.std.specs.Prelude.{◌≡◌, ◌-◌, ℤ, pos, negsuc, ◌<ℤ◌, ◌≤ℤ◌, unsigned_abs, []}
use Rattle.std.proofs.lemmas.Int.{ints}
use Rattle.om_rows.specs.Rows.{product, IsWithin, IsNarrow}
use Rattle.om_rows.proofs.Casts.{stored, stored-narrow}
use Rattle.om_simplex.specs.States.{no_column}
use Rattle.om_simplex.proofs.Prices.{within}
use Rattle.om_simplex.proofs.ValueRows.{column_exists}
use Rattle.om_simplex.proofs.values.value_of.Goals as goal

natural : (z : ℤ) → pos 0 ≤ℤ z → pos (unsigned_abs z) ≡ z
natural (pos n) h = refl
natural (negsuc n) h = absurd (omega (arith, ints))

-- a number from 0 on is read from its bits as a natural number
as_natural : (z w : ℤ) → IsNarrow z → z ≡ w → pos 0 ≤ℤ w → pos (unsigned_abs (stored z)) ≡ w
as_natural z w n e h = ap (λ x. pos (unsigned_abs x)) (stored-narrow z n ∙ e) ∙ natural w h

pub bounds-columns-column : goal.bounds-columns-column
bounds-columns-column c = column_exists _ _ _ _ _ c.in-Some.ensures.some
    (c.requires.ready.numbers c.args.i c.requires.row)

pub dot-requires-clause-places : goal.dot-requires-clause-places
dot-requires-clause-places c =
    let j = c.in-Some.column in
    subst (λ n. IsWithin n (get_or c.args.columns.now (j - 1) no_column)) (sym c.row.ensures.size)
    (within _ _ (c.requires.places (j - 1) no_column (column_exists _ _ _ _ _ c.in-Some.ensures.some
    (c.requires.ready.numbers c.args.i c.requires.row))))

pub returns-clause-value : goal.returns-clause-value
returns-clause-value c =
    let column = get_or c.args.columns.now (c.in-Some.column - 1) no_column in
    let has = c.in-Some.ensures.some in
    let narrow = subst (λ r. IsNarrow (product r column)) c.row.ensures.row c.in_ok-own.ensures.narrow in
    let e = c.in_ok-own.ensures.value ∙ ap (λ r. product r column) c.row.ensures.row in
    let above : pos 0 <ℤ product (get_or c.args.tableau.now.rows c.args.i []) column =
    c.requires.ready.own c.args.i c.in-Some.column has in (
      record {
        has = has;
        own = as_natural _ _ (subst IsNarrow (sym e) narrow) e (at_least _ above);
        last = as_natural _ _ (record { sfits = c.last.type_inv }) c.last.ensures
            (c.requires.ready.last c.args.i c.requires.row);
      },
      refl,
      narrow,
    )
  where
    at_least : (z : ℤ) → pos 0 <ℤ z → pos 0 ≤ℤ z
    at_least z h = omega (arith, ints)
