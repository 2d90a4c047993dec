use Rattle.std.proofs.Common.{◌≡◌, ◌++◌, take}
use Rattle.om_document.specs.Print.{text_of, block_lines}
use Rattle.om_document.proofs.printer.push_blocks.Given as goal

abbrev pub invariant-loop-block : goal.invariant-loop-block
invariant-loop-block l = l.out.items ≡ l.initial.out.items ++ text_of (block_lines (take l.block-index l.blocks))
