use Rattle.std.proofs.Common.{◌≡◌, length}
use Rattle.om_lines.specs.Lines.{runs}
use Rattle.om_text.specs.ReaderParts.{blocks_with_line}
use Rattle.om_text.proofs.body_lines.with_words.Given as goal

abbrev pub invariant-loop-word : goal.invariant-loop-word
invariant-loop-word l = blocks_with_line l.blocks (runs l.rest) ≡ blocks_with_line l.fn.blocks (runs l.line)

abbrev pub decreases-loop-word : goal.decreases-loop-word
decreases-loop-word l = length l.rest
