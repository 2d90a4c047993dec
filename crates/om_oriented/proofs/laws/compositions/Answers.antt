use Rattle.om_denotation.proofs.FamilyLaws.{composition_both}
use Rattle.om_oriented.proofs.laws.compositions.Goals as goal

pub returns : goal.returns
returns c = λ m chirotope X. composition_both m chirotope X
