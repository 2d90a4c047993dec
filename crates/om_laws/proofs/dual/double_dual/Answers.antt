use Rattle.om_laws.proofs.DualSizes as laws
use Rattle.om_laws.proofs.dual.double_dual.Goals as goal

pub returns-clause-same : goal.returns-clause-same
returns-clause-same c = λ E d chi om r rank. laws.dual_dual_up_to_sign E d chi om r rank

pub returns-clause-sign : goal.returns-clause-sign
returns-clause-sign c = λ E d chi om a da i. laws.dual_dual_times E d chi om a da i
