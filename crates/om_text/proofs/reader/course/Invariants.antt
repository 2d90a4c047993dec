use Rattle.std.proofs.Common.{◌≡◌, ◌≤◌, ◌+◌, true, false, length}
use Rattle.om_text.specs.Reading.{is_closed}
use Rattle.om_text.specs.ReaderParts.{IsStateInRange}
use Rattle.om_text.proofs.ReadLines.{IsRead}
use Rattle.om_text.proofs.reader.course.Given as goal

abbrev pub invariant-loop-rest : goal.invariant-loop-rest
invariant-loop-rest l = record {
  read : IsRead l.fn.bytes l.rest l.state l.line l.stops;
  unclosed : l.stops ≡ true → is_closed l.state ≡ false;
  count : l.line + length l.rest ≤ length l.fn.bytes;
  small : IsStateInRange l.state;
}

abbrev pub decreases-loop-rest : goal.decreases-loop-rest
decreases-loop-rest l = length l.rest
