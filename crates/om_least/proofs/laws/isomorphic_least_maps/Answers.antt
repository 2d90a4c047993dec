use Rattle.om_least.proofs.SameMaps.{least_same}
use Rattle.om_least.proofs.laws.isomorphic_least_maps.Goals as goal

pub returns : goal.returns
returns c = λ m k whole lm lk h. least_same m k whole lm lk h
