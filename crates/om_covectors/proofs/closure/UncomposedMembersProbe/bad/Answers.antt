use Rattle.std.proofs.Common.{get_or, ap}
use Rattle.om_covectors.proofs.DecisionLaws.{uncomposed_answer}
use Rattle.om_covectors.proofs.closure.UncomposedMembersProbe.bad.Goals as goal

pub returns : goal.returns
returns c =
    let members = c.args.self.now.members.now in
    let x = c.index-self-k.result in
    rw c.is_some.ensures
    (uncomposed_answer members c.args.k (get_or members c.args.k x) c.first_uncomposed_with.result c.if-k-self.false
    (ap (get_or members c.args.k) c.index-self-k.is) c.first_uncomposed_with.ensures.none
    c.first_uncomposed_with.ensures.first)
