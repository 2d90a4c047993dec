use Rattle.om_vectors.proofs.Identities.{swap_first, swap_last, repeat_first}
use Rattle.om_vectors.proofs.laws.triple_product_alternates.Goals as goal

pub returns : goal.returns
returns c = record { first = swap_first; last = swap_last; repeated = repeat_first }
