use Rattle.std.proofs.Common.{◌≡◌, length, drop, take}
use Rattle.om_lines.specs.Lines.{runs}
use Rattle.om_answer.specs.Numbers.{numbers_within, AreIn}
use Rattle.om_answer.proofs.NumberLaws.{continued}
use Rattle.om_answer.proofs.numbers.numbers_of.Given as goal

abbrev pub invariant-loop-range : goal.invariant-loop-range
invariant-loop-range l = record {
  same : continued l.numbers.items (numbers_within (drop l.range-index l.ranges) (runs l.rest))
      ≡ numbers_within l.fn.ranges (runs l.fn.line);
  room : l.numbers.capacity ≡ 16;
  count : length l.numbers.items ≡ l.range-index;
  within : AreIn (take l.range-index l.ranges) l.numbers.items;
}
