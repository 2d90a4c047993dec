use Rattle.om_chirotope.proofs.Theory.{theory_chirotope, map_chirotope}
use Rattle.om_chirotope.proofs.laws.axioms_and_relations.Goals as goal

pub returns : goal.returns
returns c = λ m w. (λ h. theory_chirotope m h, λ h. map_chirotope m w h)
