use Rattle.om_certificate.proofs.Refusing.{one_reason, no_reason}
use Rattle.om_certificate.proofs.laws.one_refusal.Goals as goal

pub returns-clause-one : goal.returns-clause-one
returns-clause-one c = one_reason

pub returns-clause-none : goal.returns-clause-none
returns-clause-none c = no_reason
