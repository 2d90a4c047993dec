use Rattle.om_vectors.proofs.TripleSigns.{own_signs}
use Rattle.om_vectors.proofs.laws.vectors_realize_their_signs.Goals as goal

pub returns : goal.returns
returns c = own_signs
