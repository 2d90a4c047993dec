use Rattle.om_least.proofs.Increasing.{one_place}
use Rattle.om_least.proofs.laws.places_of_least_maps.Goals as goal

pub returns : goal.returns
returns c = λ maps whole least up i j li lj h. one_place maps whole least up i j li lj h
