use Rattle.std.proofs.Common.{rules}
use Rattle.om_reply.proofs.status.Status.code.Goals as goal

pub returns-in-WriteFault : goal.returns-in-WriteFault
returns-in-WriteFault c = search rules
