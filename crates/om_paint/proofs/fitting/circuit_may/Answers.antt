use Rattle.std.proofs.Common.{rules}
use Rattle.om_paint.proofs.fitting.circuit_may.Goals as goal

pub returns-in-White : goal.returns-in-White
returns-in-White c = search rules
