use Rattle.om_make.proofs.CountLaws.{most_cocircuits}
use Rattle.om_make.proofs.CovectorCounts.{most_covectors}
use Rattle.om_make.proofs.laws.members_in_rank_three.Goals as goal

pub returns-clause-cocircuits : goal.returns-clause-cocircuits
returns-clause-cocircuits c = λ m h three. most_cocircuits m three

pub returns-clause-covectors : goal.returns-clause-covectors
returns-clause-covectors c = λ m h three. most_covectors m h three
