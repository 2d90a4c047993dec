use Rattle.std.proofs.Common.{refl}
use Rattle.om_chirotope.proofs.PairCounts.{most_pairs}
use Rattle.om_chirotope.proofs.laws.most_pairs.Goals as goal

pub returns-clause-most : goal.returns-clause-most
returns-clause-most c = most_pairs

pub returns-clause-values : goal.returns-clause-values
returns-clause-values c = refl

pub returns-clause-reached : goal.returns-clause-reached
returns-clause-reached c = refl
