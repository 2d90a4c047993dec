use Rattle.std.proofs.Common.{lit<, ◌+◌}
use Rattle.std.specs.Int.{w16, w32}
use Rattle.om_signs.specs.declared.limits.TheConstants.{MAX_PIVOTS, MAX_ROW_NAMED, MAX_PLAIN}
use Rattle.om_answer.specs.BlockLines.{width_ranges}
use Rattle.om_answer.proofs.Readings.{in_range, cast_between}
use Rattle.om_answer.proofs.block_lines.width_of_numbers.Goals as goal

pub overflow_cast-result : goal.overflow_cast-result
overflow_cast-result c =
    cast_between w32 0 (MAX_PIVOTS + 1) _ (lit< tt) (lit< tt)
    (in_range width_ranges c.args.numbers.now 0 c.requires (lit< tt))

pub overflow_cast-result-in-len3 : goal.overflow_cast-result-in-len3
overflow_cast-result-in-len3 c =
    cast_between w16 0 MAX_ROW_NAMED _ (lit< tt) (lit< tt)
    (in_range width_ranges c.args.numbers.now 1 c.requires (lit< tt))

pub overflow_cast-result-in-len3-2 : goal.overflow_cast-result-in-len3-2
overflow_cast-result-in-len3-2 c =
    cast_between w32 0 MAX_PLAIN _ (lit< tt) (lit< tt)
    (in_range width_ranges c.args.numbers.now 2 c.requires (lit< tt))
