use Rattle.om_laws.proofs.UniquenessLaws.{unique}
use Rattle.om_laws.proofs.denotation.uniqueness.Goals as goal

pub returns : goal.returns
returns c = λ E chi psi o p same. unique E chi psi o p (λ Y y. (same Y).0 y) (λ Y y. (same Y).1 y)
