use Rattle.std.proofs.Common.{◌≡◌, ◌++◌, take}
use Rattle.om_document.proofs.PrintingTwo.{after_spaces}
use Rattle.om_document.proofs.printer_two.push_names.Given as goal

abbrev pub invariant-loop-name : goal.invariant-loop-name
invariant-loop-name l = l.out.items ≡ l.initial.out.items ++ after_spaces (take l.name-index l.names)
