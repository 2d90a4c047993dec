-- The ranges of the numbers that the ends of a run have.
--
-- Main results: balanced_small, weights_small, limit_basis and width_numbers.
use Rattle.std.specs.Prelude.{ℕ, ◌≡◌, ◌+◌, ◌-◌, ◌≤◌, ℤ, pos, unsigned_abs, List, length, All}
use Rattle.std.proofs.Common.{arith, sym, ◌∙◌, ap, subst, get_or}
use Rattle.std.proofs.lemmas.List.Elements.{Contains-get_or, All-from_get_or}
use Rattle.om_signs.specs.declared.limits.TheConstants.{MAX_MULTIPLICITY, MAX_WEIGHT}
use Rattle.om_signs.proofs.Rings.{unsigned_abs-neg}
use Rattle.om_rows.specs.declared.column.Column.{Column}
use Rattle.om_rows.specs.Rows.{entry}
use Rattle.om_simplex.specs.declared.count.Count.{Count}
use Rattle.om_simplex.specs.declared.stage.Stage.{Stage}
use Rattle.om_simplex.specs.declared.outcome.Outcome.TheVariants.{Balanced, Weights, PivotLimit, Width}
use Rattle.om_simplex.specs.States.{State, row_of}
use Rattle.om_simplex.specs.Outcomes.{IsReached, first, next, IsOutcome, balanced, weights, pivot_limit, price_wide}
use Rattle.om_simplex.specs.Outcomes.{column_wide, update_wide, own_wide, factor_wide, times_wide, weight_wide}
use Rattle.om_simplex.proofs.Reached.{reached_sound}
use Rattle.om_simplex.proofs.Weighing.{length-weights, entry-weights}

module _ (columns : List Column) (m pivots : ℕ) where
  few_pivots : (k : ℕ) (s : State) → IsReached columns m pivots k s → k ≤ pivots
  few_pivots k s first = omega arith
  few_pivots k s (next n u v r l b p) = omega arith

  -- the multiplicities of a balanced end are at most MAX_MULTIPLICITY
  pub balanced_small : (counts : List Count) → IsOutcome columns m pivots (Balanced counts)
      → All (λ c. c.times ≤ MAX_MULTIPLICITY) counts
  balanced_small counts (balanced k s factor cs r b o f g t a) = λ i d l. let h =
      (a.members (get_or cs i d)).0 (Contains-get_or cs i d l) in
      t h.i (get_or cs i d).column (get_or cs i d).times h.has h.times

  -- the weights of an end are at most MAX_WEIGHT in absolute value
  pub weights_small : (zs : List ℤ) → 1 ≤ m → IsOutcome columns m pivots (Weights zs)
      → All (λ z. unsigned_abs z ≤ unsigned_abs MAX_WEIGHT) zs
  weights_small zs low (weights k s r b n w) =
      let sound = reached_sound columns m pivots low k s r in
      let size = length-weights columns m s low sound in
      All-from_get_or (λ z. unsigned_abs z ≤ unsigned_abs MAX_WEIGHT) zs (pos 0) (λ i l.
      let q = i + 1 in
      let e : entry zs q ≡ get_or zs i (pos 0) =
      ap (λ j. get_or zs j (pos 0)) (let f : i + 1 - 1 ≡ i = omega arith in f) in
      let f = entry-weights columns m s low sound q (record { low = omega arith; high = omega arith }) in
      let g : unsigned_abs (entry zs q) ≡ unsigned_abs (entry (row_of s 0) q) = ap unsigned_abs f
      ∙ unsigned_abs-neg (entry (row_of s 0) q) in
      let h = w q (omega arith) (omega arith) in
      subst (λ z. unsigned_abs z ≤ unsigned_abs MAX_WEIGHT) e (subst (λ n. n ≤ unsigned_abs MAX_WEIGHT) (sym g) h))

  -- a basis number for each row, which is that of a start variable or of a column
  pub record AreBasisNumbers (basis : List ℕ) : Type 0 where
    pub size : length basis ≡ m
    pub most : All (λ b. b ≤ m + length columns) basis

  -- the basis at the limit of pivots has a number within the range for each row
  pub limit_basis : (basis : List ℕ) → 1 ≤ m → IsOutcome columns m pivots (PivotLimit basis) → AreBasisNumbers basis
  limit_basis basis low (pivot_limit s j a) =
      let sound = reached_sound columns m pivots low pivots s a.reached in
      let size = sound.basis_size in
      record {
        size = size;
        most = All-from_get_or (λ b. b ≤ m + length columns) s.basis 0 (λ i l.
            let h = (sound.numbers (i + 1) (record { low = omega arith; high = omega arith })).high in
            subst (λ j. get_or s.basis j 0 ≤ m + length columns) (let f : i + 1 - 1 ≡ i = omega arith in f) h);
      }

  -- the numbers of a width
  pub record AreWidthNumbers (pivot row place : ℕ) : Type 0 where
    pub pivot_most : pivot ≤ pivots + 1
    pub row_most : row ≤ m
    pub place_most : place ≤ m + length columns

  -- the pivot, the row and the place of a width are within their ranges
  pub width_numbers : (stage : Stage) (pivot row place : ℕ) → 1 ≤ m
      → IsOutcome columns m pivots (Width stage pivot row place) → AreWidthNumbers pivot row place
  width_numbers stage pivot row place low (price_wide k s j r u w) = let f = few_pivots k s r in let h =
      w.number.high in record { pivot_most = omega arith; row_most = omega arith; place_most = omega arith }
  width_numbers stage pivot row place low (column_wide k s j i a l w) = let h = w.row.high in let g =
      a.entering.number.high in record { pivot_most = omega arith; row_most = omega arith; place_most = omega arith }
  width_numbers stage pivot row place low (update_wide k s j p i q a l n f w) =
      let h = w.row in
      let g = w.place.place.high in
      let e = (reached_sound columns m pivots low k s a.reached).widths i h in
      record { pivot_most = omega arith; row_most = omega arith; place_most = omega arith }
  width_numbers stage pivot row place low (own_wide k s i r b w) = let f = few_pivots k s r in let h = w.has.row.high in
      record { pivot_most = omega arith; row_most = omega arith; place_most = omega arith }
  width_numbers stage pivot row place low (factor_wide k s f r b n l w) = let g = few_pivots k s r in
      record { pivot_most = omega arith; row_most = omega arith; place_most = omega arith }
  width_numbers stage pivot row place low (times_wide k s f i r b n l a w) = let g = few_pivots k s r in let h =
      w.has.row.high in record { pivot_most = omega arith; row_most = omega arith; place_most = omega arith }
  width_numbers stage pivot row place low (weight_wide k s q r u n w) = let g = few_pivots k s r in let h = w.other in
      record { pivot_most = omega arith; row_most = omega arith; place_most = omega arith }
