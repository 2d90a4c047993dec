use Rattle.std.proofs.Common.{◌≡◌, ◌++◌, take, map}
use Rattle.om_lines.specs.Words.{byte_of}
use Rattle.om_document.proofs.printer.push_signs.Given as goal

abbrev pub invariant-loop-place : goal.invariant-loop-place
invariant-loop-place l = l.out.items ≡ l.initial.out.items ++ map byte_of (take l.place l.vector)
