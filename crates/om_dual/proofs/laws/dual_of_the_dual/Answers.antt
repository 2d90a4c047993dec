use Rattle.om_denotation.proofs.DualMaps.{dual_normal}
use Rattle.om_dual.proofs.laws.dual_of_the_dual.Goals as goal

pub returns : goal.returns
returns c = λ m d k om h. dual_normal m om d k h
