use Rattle.om_laws.proofs.ParallelLaws as laws
use Rattle.om_laws.proofs.elements.parallel_elements.Goals as goal

pub returns : goal.returns
returns c = λ E chi om e h ne p ih. laws.parallel_covectors E chi om e h ne p.first p.second p.apart ih
