use Rattle.om_laws.proofs.ParallelLaws as laws
use Rattle.om_laws.proofs.elements.loops_and_coloops.Goals as goal

pub returns-clause-at_loop : goal.returns-clause-at_loop
returns-clause-at_loop c = λ E chi om e ie loop X x. laws.loop_covector E chi om e ie loop X x

pub returns-clause-at_coloop : goal.returns-clause-at_coloop
returns-clause-at_coloop c = λ E chi om e coloop X x. laws.coloop_circuit E chi om e coloop X x
