use Rattle.om_laws.proofs.BaseLaws as laws
use Rattle.om_laws.proofs.circuits.orthogonality.Goals as goal

pub returns : goal.returns
returns c = λ E chi om X Y x y. laws.circuit_orthogonal E chi om X Y x y
