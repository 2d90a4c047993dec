use Rattle.om_minors.proofs.DualMinors.{dual_deletion}
use Rattle.om_minors.proofs.laws.deletion_and_contraction_are_dual.Goals as goal

pub returns : goal.returns
returns c = λ m d k l e om several low high dual less last. dual_deletion m d k l e om several low high dual less last
