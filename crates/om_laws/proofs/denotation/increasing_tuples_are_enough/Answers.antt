use Rattle.om_laws.proofs.IncreasingLaws as laws
use Rattle.om_laws.proofs.denotation.increasing_tuples_are_enough.Goals as goal

pub returns-clause-circuits : goal.returns-clause-circuits
returns-clause-circuits c = λ E chi alt X. laws.circuit_both E chi alt X

pub returns-clause-cocircuits : goal.returns-clause-cocircuits
returns-clause-cocircuits c = λ chi alt X. laws.cocircuit_both chi alt X

pub returns-clause-covectors : goal.returns-clause-covectors
returns-clause-covectors c = λ E chi alt X. laws.orthogonal_both E chi alt X
