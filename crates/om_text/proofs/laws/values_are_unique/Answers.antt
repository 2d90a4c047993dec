use Rattle.om_text.proofs.Outcome.{same_value}
use Rattle.om_text.proofs.laws.values_are_unique.Goals as goal

pub returns : goal.returns
returns c = same_value
