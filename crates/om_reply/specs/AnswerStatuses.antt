-- The status with which a run ends that has written an answer whole.
use Rattle.om_certificate.specs.declared.verdict.Verdict.{Verdict}
use Rattle.om_certificate.specs.declared.verdict.Verdict.TheVariants as verdict
use Rattle.om_printing.specs.declared.line.Line.{Line}
use Rattle.om_printing.specs.declared.line.Line.TheVariants as line
use Rattle.om_reply.specs.declared.answer.Answer.{Answer}
use Rattle.om_reply.specs.declared.answer.Answer.TheVariants as answer
use Rattle.om_reply.specs.declared.status.Status.{Status}
use Rattle.om_reply.specs.declared.status.Status.TheVariants.{Done, Refused, Usage, Limit}

-- the status of a run that has written this line; every line not named here is a refusal
abbrev pub status_of_line : Line → Status
status_of_line line.Accepted = Done
status_of_line line.Covector = Done
status_of_line line.NotCovector = Done
status_of_line (line.Circuit x) = Done
status_of_line (line.Cocircuit x) = Done
status_of_line (line.Cyclic x) = Done
status_of_line line.ValidRealizable = Done
status_of_line line.ValidNonrealizable = Done
status_of_line line.ValidUndecided = Done
status_of_line (line.Usage k) = Usage
status_of_line (line.LimitMembers k) = Limit
status_of_line (line.LimitValues k) = Limit
status_of_line _ = Refused

-- the status of a run that has written this verdict
abbrev pub status_of_verdict : Verdict → Status
status_of_verdict (verdict.Limit end unfound) = Limit
status_of_verdict _ = Done

-- the status of a run that has written this answer
abbrev pub status_of : Answer → Status
status_of (answer.Line l) = status_of_line l
status_of (answer.Document d) = Done
status_of (answer.Upgraded d) = Done
status_of (answer.Mutations sets) = Done
status_of (answer.Extensions n l) = Done
status_of (answer.Hull items) = Done
status_of (answer.Claim c) = status_of_verdict c.verdict
status_of (answer.Made vs t) = Done
