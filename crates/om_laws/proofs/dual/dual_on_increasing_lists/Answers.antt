use Rattle.om_laws.proofs.DualSizes as laws
use Rattle.om_laws.proofs.dual.dual_on_increasing_lists.Goals as goal

pub returns : goal.returns
returns c = λ n r f le a. laws.dual_of_on_tuples n r f le a
