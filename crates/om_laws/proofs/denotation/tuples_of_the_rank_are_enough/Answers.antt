use Rattle.om_laws.proofs.RankLaws as laws
use Rattle.om_laws.proofs.denotation.tuples_of_the_rank_are_enough.Goals as goal

pub returns-clause-circuits : goal.returns-clause-circuits
returns-clause-circuits c = λ n r f X. laws.circuit_in_rank n r f X

pub returns-clause-cocircuits : goal.returns-clause-cocircuits
returns-clause-cocircuits c = λ n r f X. laws.cocircuit_in_rank n r f X

pub returns-clause-covectors : goal.returns-clause-covectors
returns-clause-covectors c = λ n r f X. laws.orthogonal_in_rank n r f X
