use Rattle.om_certificate.proofs.Exclusion.{certificate_excludes}
use Rattle.om_certificate.proofs.laws.certificates_exclude_vectors.Goals as goal

pub returns : goal.returns
returns c = certificate_excludes
