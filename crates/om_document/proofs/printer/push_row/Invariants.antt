use Rattle.std.proofs.Common.{◌≡◌, ◌++◌, take, map}
use Rattle.om_lines.specs.Words.{byte_of}
use Rattle.om_document.proofs.printer.push_row.Given as goal

abbrev pub invariant-loop-sign : goal.invariant-loop-sign
invariant-loop-sign l = l.out.items ≡ l.initial.out.items ++ map byte_of (take l.sign-index l.signs)
