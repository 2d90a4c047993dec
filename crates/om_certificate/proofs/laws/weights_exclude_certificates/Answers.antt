use Rattle.om_certificate.proofs.Exclusion.{weights_exclude}
use Rattle.om_certificate.proofs.laws.weights_exclude_certificates.Goals as goal

pub returns : goal.returns
returns c = weights_exclude
