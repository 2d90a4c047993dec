use Rattle.om_denotation.proofs.FamilyLaws.{conformal_both}
use Rattle.om_oriented.proofs.laws.conformal_decomposition.Goals as goal

pub returns : goal.returns
returns c = λ m chirotope X. conformal_both m chirotope X
