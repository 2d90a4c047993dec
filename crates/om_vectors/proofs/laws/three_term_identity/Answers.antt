use Rattle.om_vectors.proofs.Identities.{three_terms}
use Rattle.om_vectors.proofs.laws.three_term_identity.Goals as goal

pub returns : goal.returns
returns c = three_terms
