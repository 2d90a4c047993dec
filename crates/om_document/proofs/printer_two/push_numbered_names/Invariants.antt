use Rattle.std.proofs.Common.{◌≡◌, ◌++◌}
use Rattle.om_document.specs.PrintTwo.{numbered_names}
use Rattle.om_document.proofs.PrintingTwo.{after_spaces}
use Rattle.om_document.proofs.printer_two.push_numbered_names.Given as goal

abbrev pub invariant-loop-index : goal.invariant-loop-index
invariant-loop-index l = l.out.items ≡ l.initial.out.items ++ after_spaces (numbered_names l.index)
