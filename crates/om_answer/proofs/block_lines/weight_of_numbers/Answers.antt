use Rattle.std.proofs.Common.{lit<}
use Rattle.std.specs.Int.{w8}
use Rattle.om_signs.specs.declared.limits.TheConstants.{MAX_ELEMENTS}
use Rattle.om_answer.specs.BlockLines.{weight_ranges}
use Rattle.om_answer.proofs.Readings.{in_range, cast_between}
use Rattle.om_answer.proofs.block_lines.weight_of_numbers.Goals as goal

pub overflow_cast-a : goal.overflow_cast-a
overflow_cast-a c =
    cast_between w8 1 MAX_ELEMENTS _ (lit< tt) (lit< tt)
    (in_range weight_ranges c.args.numbers.now 0 c.requires (lit< tt))

pub overflow_cast-b : goal.overflow_cast-b
overflow_cast-b c =
    cast_between w8 1 MAX_ELEMENTS _ (lit< tt) (lit< tt)
    (in_range weight_ranges c.args.numbers.now 1 c.requires (lit< tt))

pub overflow_cast-c : goal.overflow_cast-c
overflow_cast-c c =
    cast_between w8 1 MAX_ELEMENTS _ (lit< tt) (lit< tt)
    (in_range weight_ranges c.args.numbers.now 2 c.requires (lit< tt))
