use Rattle.std.proofs.Common.{◌≡◌, length}
use Rattle.om_lines.specs.Lines.{runs}
use Rattle.om_document.specs.Heading.{plain_numbers}
use Rattle.om_text.proofs.Numbers.{after_numbers}
use Rattle.om_text.proofs.kind.numbers_of.Given as goal

abbrev pub invariant-loop-word : goal.invariant-loop-word
invariant-loop-word l = record {
  same : after_numbers l.numbers.items (plain_numbers (runs l.rest)) ≡ plain_numbers (runs l.line);
  room : l.numbers.capacity ≡ 16;
}

abbrev pub decreases-loop-word : goal.decreases-loop-word
decreases-loop-word l = length l.rest
