-- The ranges of budgets.
use Rattle.std.specs.Prelude.{◌≤◌}
use Rattle.om_signs.specs.declared.limits.TheConstants.{MAX_BOX, MAX_STEPS, MAX_PIVOTS}
use Rattle.om_budgets.specs.declared.budgets.Budgets.{Budgets}

-- budgets of a decision, each in its range
pub record AreBudgets (b : Budgets) : Type 0 where
  pub box_low : 1 ≤ b.box_size
  pub box_high : b.box_size ≤ MAX_BOX
  pub steps_low : 1 ≤ b.steps
  pub steps_high : b.steps ≤ MAX_STEPS
  pub pivots_low : 1 ≤ b.pivots
  pub pivots_high : b.pivots ≤ MAX_PIVOTS
