use Rattle.std.proofs.Common.{◌≡◌, ◌++◌, take}
use Rattle.om_document.specs.Print.{text_of, member_lines}
use Rattle.om_document.proofs.printer.push_member_lines.Given as goal

abbrev pub invariant-loop-member : goal.invariant-loop-member
invariant-loop-member l = l.out.items ≡ l.initial.out.items ++ text_of (member_lines (take l.member-index l.members))
