use Rattle.om_subsets.proofs.Statements.{subset_is_increasing}
use Rattle.om_subsets.proofs.laws.increasing_lists.Goals as goal

pub returns : goal.returns
returns c = subset_is_increasing
