use Rattle.om_laws.proofs.MinorLaws as laws
use Rattle.om_laws.proofs.minors.minors_at_a_coloop_or_loop.Goals as goal

pub returns-clause-at_coloop : goal.returns-clause-at_coloop
returns-clause-at_coloop c = λ n e i chi om co X. laws.coloop_both n e i chi om co X

pub returns-clause-at_loop : goal.returns-clause-at_loop
returns-clause-at_loop c = λ n e i chi om lo X. laws.loop_both n e i chi om lo X
