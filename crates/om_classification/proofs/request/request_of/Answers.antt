use Rattle.om_classification.proofs.WordLaws.{none_at_fault}
use Rattle.om_classification.proofs.request.request_of.Goals as goal

pub returns-in-empty-clause-usage : goal.returns-in-empty-clause-usage
returns-in-empty-clause-usage c = none_at_fault _ _ c.in-empty.len_below
