use Rattle.om_commands.proofs.OperationLaws.{chirotope_outcome}
use Rattle.om_commands.proofs.applying.apply.Goals as goal

pub returns-in_ok-made-in-Chirotope : goal.returns-in_ok-made-in-Chirotope
returns-in_ok-made-in-Chirotope c =
    let m = c.in_ok-made-in-Chirotope.ensures in
    rw c.in-Chirotope.is
    (chirotope_outcome c.args.operation c.in-Chirotope.chirotope c.in_ok-made-in-Chirotope.made m.few m.left m.made)
