use Rattle.om_laws.proofs.FundamentalCircuits as laws
use Rattle.om_laws.proofs.bases.fundamental_circuit.Goals as goal

pub returns : goal.returns
returns c = λ E chi om t e m n out. laws.fundamental_circuit E chi om t e m n out
