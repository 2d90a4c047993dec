use Rattle.std.proofs.Common.{◌≡◌, ◌++◌, length}
use Rattle.om_document.specs.Print.{text_of, sign_lines}
use Rattle.om_document.proofs.printer.push_rows.Given as goal

abbrev pub invariant-loop-rest : goal.invariant-loop-rest
invariant-loop-rest l = l.out.items ++ text_of (sign_lines l.rest) ≡ l.initial.out.items
    ++ text_of (sign_lines l.fn.signs)

abbrev pub decreases-loop-rest : goal.decreases-loop-rest
decreases-loop-rest l = length l.rest
