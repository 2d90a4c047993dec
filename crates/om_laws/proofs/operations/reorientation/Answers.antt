use Rattle.std.proofs.Common.{[]}
use Rattle.om_laws.proofs.ReorientationLaws as laws
use Rattle.om_laws.proofs.operations.reorientation.Goals as goal

pub returns-clause-chirotope : goal.returns-clause-chirotope
returns-clause-chirotope c = λ set E chi om. laws.reoriented_chirotope set E chi om

pub returns-clause-circuits : goal.returns-clause-circuits
returns-clause-circuits c = λ set E chi X. laws.circuit_turned set E chi X

pub returns-clause-cocircuits : goal.returns-clause-cocircuits
returns-clause-cocircuits c = λ set chi X. laws.cocircuit_turned set [] chi X

pub returns-clause-covectors : goal.returns-clause-covectors
returns-clause-covectors c = λ set E chi X. laws.covector_turned set E chi X
