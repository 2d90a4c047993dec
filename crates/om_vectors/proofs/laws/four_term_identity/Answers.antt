use Rattle.om_vectors.proofs.Identities.{four_terms}
use Rattle.om_vectors.proofs.laws.four_term_identity.Goals as goal

pub returns : goal.returns
returns c = four_terms
