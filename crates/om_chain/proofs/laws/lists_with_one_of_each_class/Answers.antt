use Rattle.om_chain.proofs.Shown.{one_of_each}
use Rattle.om_chain.proofs.laws.lists_with_one_of_each_class.Goals as goal

pub returns : goal.returns
returns c = λ family n classes m h p. one_of_each family n classes h m p
