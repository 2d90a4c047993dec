use Rattle.std.proofs.Common.{◌≡◌, ◌++◌, ◌-◌, map, take, drop}
use Rattle.om_lines.specs.Words.{byte_of}
use Rattle.om_document.specs.PrintTwo.{values_in_revlex}
use Rattle.om_document.proofs.printer_two.push_value_row.Given as goal

abbrev pub invariant-loop-place : goal.invariant-loop-place
invariant-loop-place l = l.out.items ≡ l.initial.out.items
    ++ map byte_of (take (l.place - l.first) (drop l.first (values_in_revlex l.raw)))
