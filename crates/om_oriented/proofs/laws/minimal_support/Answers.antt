use Rattle.om_denotation.proofs.FamilyLaws.{least_both}
use Rattle.om_oriented.proofs.laws.minimal_support.Goals as goal

pub returns : goal.returns
returns c = λ m chirotope X. least_both m chirotope X
