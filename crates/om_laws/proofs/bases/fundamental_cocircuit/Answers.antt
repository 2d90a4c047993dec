use Rattle.om_laws.proofs.FundamentalCircuits as laws
use Rattle.om_laws.proofs.bases.fundamental_cocircuit.Goals as goal

pub returns : goal.returns
returns c = λ E chi om u e v n. laws.fundamental_cocircuit E chi om u v e n
