use Rattle.std.proofs.Common.{rules}
use Rattle.om_reply.proofs.answer.status_of_verdict.Goals as goal

pub returns-in-Limit : goal.returns-in-Limit
returns-in-Limit c = search rules
