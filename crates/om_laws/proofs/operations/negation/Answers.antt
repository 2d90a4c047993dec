use Rattle.std.proofs.Common.{[]}
use Rattle.om_laws.proofs.NegationLaws as laws
use Rattle.om_laws.proofs.operations.negation.Goals as goal

pub returns-clause-chirotope : goal.returns-clause-chirotope
returns-clause-chirotope c = λ E chi om. laws.negative_chirotope E chi om

pub returns-clause-circuits : goal.returns-clause-circuits
returns-clause-circuits c = λ E chi X. (laws.circuit_negative E chi X, laws.negative_circuit E chi X)

pub returns-clause-cocircuits : goal.returns-clause-cocircuits
returns-clause-cocircuits c = λ chi X. (laws.cocircuit_negative [] chi X, laws.negative_cocircuit [] chi X)

pub returns-clause-covectors : goal.returns-clause-covectors
returns-clause-covectors c = λ E chi X. (laws.covector_negative E chi X, laws.negative_covector E chi X)
