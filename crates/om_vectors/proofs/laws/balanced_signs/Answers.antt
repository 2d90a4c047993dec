use Rattle.om_vectors.proofs.NumberSigns.{balanced}
use Rattle.om_vectors.proofs.laws.balanced_signs.Goals as goal

pub returns : goal.returns
returns c = balanced
