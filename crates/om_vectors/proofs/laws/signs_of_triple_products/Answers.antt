use Rattle.om_vectors.proofs.TripleSigns.{chirotope_of}
use Rattle.om_vectors.proofs.laws.signs_of_triple_products.Goals as goal

pub returns : goal.returns
returns c = chirotope_of
