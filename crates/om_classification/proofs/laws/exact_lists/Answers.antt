use Rattle.om_classification.specs.Lists.{first}
use Rattle.om_classification.proofs.ExactLists.{one_member_each}
use Rattle.om_classification.proofs.laws.exact_lists.Goals as goal

pub returns : goal.returns
returns c = λ r pieces text all i m asked few member.
    one_member_each r first all.lists i m asked all.read.shown few member
