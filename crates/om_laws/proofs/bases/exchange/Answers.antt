use Rattle.om_laws.proofs.BaseLaws as laws
use Rattle.om_laws.proofs.bases.exchange.Goals as goal

pub returns-clause-one : goal.returns-clause-one
returns-clause-one c = λ E chi om. laws.exchange E chi om

pub returns-clause-symmetric : goal.returns-clause-symmetric
returns-clause-symmetric c = λ E chi om u e v c b d out. laws.symmetric_exchange E chi om u e v c b d out
