use Rattle.om_points.proofs.Budgets.{frontier_budget}
use Rattle.om_points.proofs.laws.budgets_of_frontiers.Goals as goal

pub returns : goal.returns
returns c = λ m box steps w s st h. frontier_budget box m steps w s st h
