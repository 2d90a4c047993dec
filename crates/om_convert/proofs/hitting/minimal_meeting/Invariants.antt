use Rattle.om_convert.specs.Hitting.{IsNonzeroMember}
use Rattle.om_convert.proofs.MeetingLaws.{IsNarrowedTo}
use Rattle.om_convert.proofs.hitting.minimal_meeting.Given as goal

abbrev pub invariant-loop-e : goal.invariant-loop-e
invariant-loop-e l = IsNarrowedTo l.elements (IsNonzeroMember l.vectors) l.e l.set.n l.set.elements
