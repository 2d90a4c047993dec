use Rattle.om_classification.proofs.WordLaws.{least_at_fault}
use Rattle.om_classification.proofs.request.after_least.Goals as goal

pub returns-in-len1-up-clause-usage : goal.returns-in-len1-up-clause-usage
returns-in-len1-up-clause-usage c = least_at_fault _ _ c.in-len1-up.len_at_least
