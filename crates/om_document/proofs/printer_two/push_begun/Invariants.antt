use Rattle.std.proofs.Common.{◌≡◌, ◌++◌, take}
use Rattle.std.specs.Prelude.{filter}
use Rattle.om_document.specs.Print.{text_of, member_lines}
use Rattle.om_document.specs.PrintTwo.{begins_with_plus}
use Rattle.om_document.proofs.printer_two.push_begun.Given as goal

abbrev pub invariant-loop-member : goal.invariant-loop-member
invariant-loop-member l = l.out.items ≡ l.initial.out.items
    ++ text_of (member_lines (filter begins_with_plus (take l.member-index l.members)))
