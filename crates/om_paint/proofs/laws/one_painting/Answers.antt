use Rattle.om_paint.proofs.OnePainting as paintings
use Rattle.om_paint.proofs.laws.one_painting.Goals as goal

pub returns-clause-one : goal.returns-clause-one
returns-clause-one c = paintings.one_painting

pub returns-clause-colours : goal.returns-clause-colours
returns-clause-colours c = paintings.same_painting
