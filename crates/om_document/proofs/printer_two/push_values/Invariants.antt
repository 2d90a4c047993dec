use Rattle.std.proofs.Common.{◌≡◌, ◌≤◌, ◌++◌, ◌-◌, drop}
use Rattle.om_document.specs.Print.{text_of, sign_lines}
use Rattle.om_document.specs.PrintTwo.{values_in_revlex}
use Rattle.om_document.proofs.printer_two.push_values.Given as goal

abbrev pub invariant-loop-first : goal.invariant-loop-first
invariant-loop-first l = record {
  same : l.out.items ++ text_of (sign_lines (drop l.first (values_in_revlex l.raw))) ≡ l.initial.out.items
      ++ text_of (sign_lines (values_in_revlex l.raw));
  within : l.first ≤ l.count;
}

abbrev pub decreases-loop-first : goal.decreases-loop-first
decreases-loop-first l = l.count - l.first
