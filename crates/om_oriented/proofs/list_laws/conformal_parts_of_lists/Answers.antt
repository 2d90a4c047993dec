use Rattle.om_denotation.proofs.CocircuitLaws.{minimal_part}
use Rattle.om_oriented.proofs.list_laws.conformal_parts_of_lists.Goals as goal

pub returns : goal.returns
returns c = λ n members lengths axioms X m i k. minimal_part n members lengths axioms X m i k
