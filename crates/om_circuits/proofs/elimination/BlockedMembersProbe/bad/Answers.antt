use Rattle.std.proofs.Common.{get_or, ap}
use Rattle.om_circuits.proofs.DecisionLaws.{blocked_answer}
use Rattle.om_circuits.proofs.elimination.BlockedMembersProbe.bad.Goals as goal

pub returns : goal.returns
returns c =
    let members = c.args.self.now.members.now in
    let x = c.index-self-k.result in
    rw c.is_some.ensures
    (blocked_answer members c.args.self.now.elements c.args.k (get_or members c.args.k x)
    c.first_blocked_with.result c.if-k-self.false (ap (get_or members c.args.k) c.index-self-k.is)
    c.first_blocked_with.ensures.none c.first_blocked_with.ensures.first)
