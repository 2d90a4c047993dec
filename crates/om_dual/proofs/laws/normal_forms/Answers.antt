use Rattle.om_denotation.proofs.NormalForms.{normal_covectors}
use Rattle.om_denotation.proofs.Uniqueness.{one_normal_form, same_by_covectors, normal_up_to_sign}
use Rattle.om_dual.proofs.laws.normal_forms.Goals as goal

pub returns-clause-one : goal.returns-clause-one
returns-clause-one c = λ m a b h k. one_normal_form m a b h k

pub returns-clause-covectors : goal.returns-clause-covectors
returns-clause-covectors c = λ m a h X l. let k = normal_covectors m a h X l in (k.1, k.0)

pub returns-clause-same : goal.returns-clause-same
returns-clause-same c = λ m k a om ok e same h. normal_up_to_sign m k a (same_by_covectors m k om ok e same) h
