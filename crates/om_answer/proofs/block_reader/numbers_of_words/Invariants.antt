use Rattle.std.proofs.Common.{◌≡◌, length}
use Rattle.om_lines.specs.Lines.{runs}
use Rattle.om_document.specs.Heading.{plain_numbers}
use Rattle.om_answer.proofs.NumberLaws.{continued}
use Rattle.om_answer.proofs.block_reader.numbers_of_words.Given as goal

abbrev pub invariant-loop-word : goal.invariant-loop-word
invariant-loop-word l = continued l.numbers (plain_numbers (runs l.rest)) ≡ plain_numbers (runs l.fn.line)

abbrev pub decreases-loop-word : goal.decreases-loop-word
decreases-loop-word l = length l.rest
