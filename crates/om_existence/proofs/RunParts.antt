-- The run of the linear program over some columns ends.
--
-- Main results: outcome_possible.
use Rattle.std.specs.Prelude.{ℕ, ◌≡◌, ◌+◌, ◌-◌, ◌≤◌, unsigned_abs, List, Option, Some, None}
use Rattle.std.proofs.Common.{zero, suc, subst, inl, inr, arith}
use Rattle.std.proofs.lemmas.Bool.{cases_lt}
use Rattle.om_signs.specs.declared.limits.TheConstants.{MAX_WEIGHT}
use Rattle.om_rows.specs.declared.column.Column.{Column}
use Rattle.om_rows.specs.Rows.{entry}
use Rattle.om_simplex.specs.declared.outcome.Outcome.{Outcome}
use Rattle.om_simplex.specs.declared.outcome.Outcome.TheVariants.{Weights, PivotLimit, Width}
use Rattle.om_simplex.specs.declared.stage.Stage.TheVariants.{Price, Scale}
use Rattle.om_simplex.specs.Ends.{IsWeightsEnd, weighed, weight_wide}
use Rattle.om_simplex.specs.Exchanges.{IsStep}
use Rattle.om_simplex.specs.Outcomes.{IsReached, first, IsOutcome, IsBalanced, pivot_limit, price_wide}
use Rattle.om_simplex.specs.Pivots.{IsEntering}
use Rattle.om_simplex.specs.Results.{weights_of, IsWeightSmall, IsWeightWide}
use Rattle.om_simplex.specs.States.{State, start, row_of}
use Rattle.om_simplex.proofs.Reached.{reached_sound}
use Rattle.om_simplex.proofs.Runs.{numbers_distinct, ready, balanced_up, weights_up, pivot_step}
use Rattle.om_existence.specs.Possible.{IsPossible}
use Rattle.om_existence.proofs.FirstPlaces.{IsFirstOfRows, row_or_first}
use Rattle.om_existence.proofs.PivotParts.{Enters, at, wide, nowhere, entering_possible, step_possible}
use Rattle.om_existence.proofs.Possible.{held, then, mapped, either_way}
use Rattle.om_existence.proofs.ScaleParts.{balanced_end_possible}

-- ---- where no column enters

first_weight : (m : ℕ) (s : State) (q : ℕ) → 1 ≤ m → IsFirstOfRows (IsWeightSmall s) (m - 1) q → IsWeightWide m s q
first_weight m s q low f = record {
  row = f.low;
  other = let l = f.high in omega (arith, l, low);
  wide = elim (cases_lt (unsigned_abs MAX_WEIGHT) (unsigned_abs (entry (row_of s 0) q))) [
    | inl great ↦ great
    | inr small ↦ absurd (f.fails small)
  ];
  earlier = λ k some less. f.earlier k some less;
}

weights_end_possible : (m : ℕ) (s : State) (k : ℕ) → 1 ≤ m → IsPossible ((o : Outcome) × IsWeightsEnd m s k o)
weights_end_possible m s k low = mapped (λ h. elim h [
  | inl all ↦ (Weights (weights_of m s), weighed (λ q some less. all q some (omega (arith, less))))
  | inr f ↦ (Width Scale k 0 f.0, weight_wide f.0 (first_weight m s f.0 low f.1))
]) (row_or_first (IsWeightSmall s) (m - 1))

-- ---- the run from a state on

module _ (columns : List Column) (m pivots : ℕ) (low : 1 ≤ m) where
  abbrev HasOutcome : Type 0
  HasOutcome = (o : Outcome) × IsOutcome columns m pivots o

  balanced_here : (k : ℕ) (s : State) → IsReached columns m pivots k s → IsBalanced m s → IsPossible HasOutcome
  balanced_here k s reached balanced =
      let sound = reached_sound columns m pivots low k s reached in
      mapped (λ h. (h.0, balanced_up columns m pivots k s reached h.0 balanced h.1))
      (balanced_end_possible columns m s (ready columns m s sound) (numbers_distinct columns m s sound) k)

  -- a state that isn't balanced: the run ends there, if not at the column that enters
  unbalanced_here : (k : ℕ) (s : State) → IsReached columns m pivots k s → (IsBalanced m s → ⊥)
      → ((j : ℕ) → IsEntering columns s j → IsPossible HasOutcome) → IsPossible HasOutcome
  unbalanced_here k s reached unbalanced f = then (entering_possible columns s) (λ e. chosen e)
    where
      chosen : Enters columns s → IsPossible HasOutcome
      chosen (at j is) = f j is
      chosen (wide j is) = held (Width Price (k + 1) 0 j, price_wide k s j reached unbalanced is)
      chosen (nowhere is) = mapped (λ h. (h.0, weights_up columns m pivots k s reached h.0 unbalanced is h.1))
          (weights_end_possible m s k low)

  state_here : (k : ℕ) (s : State) → IsReached columns m pivots k s
      → ((IsBalanced m s → ⊥) → (j : ℕ) → IsEntering columns s j → IsPossible HasOutcome) → IsPossible HasOutcome
  state_here k s reached f = then (either_way (IsBalanced m s)) (λ e. elim e [
    | inl balanced ↦ balanced_here k s reached balanced
    | inr unbalanced ↦ unbalanced_here k s reached unbalanced (f unbalanced)
  ])

  continued : (k : ℕ) (s : State) (o : Option Outcome) → IsStep columns m pivots k s o
      → (IsReached columns m pivots (suc k) s → IsPossible HasOutcome) → IsPossible HasOutcome
  continued k s None step f = f step.1
  continued k s (Some o) step f = held (o, step)

  -- no pivot is left
  stopped : (k : ℕ) (s : State) (j : ℕ) → IsReached columns m pivots k s → (IsBalanced m s → ⊥)
      → IsEntering columns s j → k ≡ pivots → IsOutcome columns m pivots (PivotLimit s.basis)
  stopped k s j reached unbalanced entering same = pivot_limit s j (record {
    reached = subst (λ x. IsReached columns m pivots x s) same reached;
    unbalanced = unbalanced;
    entering = entering;
  })

  -- from a state with d pivots left
  outcome_from : (d k : ℕ) (s : State) → IsReached columns m pivots k s → k + d ≡ pivots → IsPossible HasOutcome
  outcome_from zero k s reached e = state_here k s reached (λ unbalanced j entering.
      held (PivotLimit s.basis, stopped k s j reached unbalanced entering (omega (arith, e))))
  outcome_from (suc d) k s reached e = state_here k s reached (λ unbalanced j entering.
      then (step_possible columns m k s (reached_sound columns m pivots low k s reached) j entering) (λ h.
      let step = pivot_step columns m pivots k s reached j h.0 h.1.0 unbalanced entering (omega (arith, e)) h.1.1 in
      continued k h.0 h.1.0 step (λ next. outcome_from d (suc k) h.0 next (omega (arith, e)))))

  pub outcome_possible : IsPossible ((o : Outcome) × IsOutcome columns m pivots o)
  outcome_possible = outcome_from pivots 0 (start m) first (omega arith)
