use Rattle.om_certificate.proofs.Sizes.{ordered_sizes}
use Rattle.om_certificate.proofs.laws.statements_hold_of_vectors.Goals as goal

pub returns-clause-strict : goal.returns-clause-strict
returns-clause-strict c = λ m vs st r h s. (ordered_sizes vs m r st h).less s

pub returns-clause-equation : goal.returns-clause-equation
returns-clause-equation c = λ m vs st r h s. (ordered_sizes vs m r st h).equal s

pub returns-clause-nonzero : goal.returns-clause-nonzero
returns-clause-nonzero c = λ m vs st r h. (ordered_sizes vs m r st h).positive
