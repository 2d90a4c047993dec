use Rattle.std.proofs.Common.{lit<}
use Rattle.std.specs.Int.{w8, w64}
use Rattle.om_signs.specs.declared.limits.TheConstants.{MAX_ELEMENTS, MAX_MULTIPLICITY}
use Rattle.om_answer.specs.BlockLines.{entry_ranges}
use Rattle.om_answer.proofs.Readings.{in_range, cast_between, entry_read}
use Rattle.om_answer.proofs.block_lines.entry_of_numbers.Goals as goal

pub overflow_cast-result : goal.overflow_cast-result
overflow_cast-result c =
    cast_between w8 1 MAX_ELEMENTS _ (lit< tt) (lit< tt)
    (in_range entry_ranges c.args.numbers.now 0 c.requires (lit< tt))

pub overflow_cast-result-in-len8 : goal.overflow_cast-result-in-len8
overflow_cast-result-in-len8 c =
    cast_between w8 1 MAX_ELEMENTS _ (lit< tt) (lit< tt)
    (in_range entry_ranges c.args.numbers.now 1 c.requires (lit< tt))

pub overflow_cast-result-in-len8-2 : goal.overflow_cast-result-in-len8-2
overflow_cast-result-in-len8-2 c =
    cast_between w8 1 MAX_ELEMENTS _ (lit< tt) (lit< tt)
    (in_range entry_ranges c.args.numbers.now 2 c.requires (lit< tt))

pub overflow_cast-result-in-len8-3 : goal.overflow_cast-result-in-len8-3
overflow_cast-result-in-len8-3 c =
    cast_between w8 1 MAX_ELEMENTS _ (lit< tt) (lit< tt)
    (in_range entry_ranges c.args.numbers.now 3 c.requires (lit< tt))

pub overflow_cast-result-in-len8-4 : goal.overflow_cast-result-in-len8-4
overflow_cast-result-in-len8-4 c =
    cast_between w8 1 MAX_ELEMENTS _ (lit< tt) (lit< tt)
    (in_range entry_ranges c.args.numbers.now 4 c.requires (lit< tt))

pub overflow_cast-result-in-len8-5 : goal.overflow_cast-result-in-len8-5
overflow_cast-result-in-len8-5 c =
    cast_between w8 1 3 _ (lit< tt) (lit< tt)
    (in_range entry_ranges c.args.numbers.now 5 c.requires (lit< tt))

pub overflow_cast-result-in-len8-6 : goal.overflow_cast-result-in-len8-6
overflow_cast-result-in-len8-6 c =
    cast_between w8 1 3 _ (lit< tt) (lit< tt)
    (in_range entry_ranges c.args.numbers.now 6 c.requires (lit< tt))

pub overflow_cast-result-in-len8-7 : goal.overflow_cast-result-in-len8-7
overflow_cast-result-in-len8-7 c =
    cast_between w64 1 MAX_MULTIPLICITY _ (lit< tt) (lit< tt)
    (in_range entry_ranges c.args.numbers.now 7 c.requires (lit< tt))

pub returns-in-len8 : goal.returns-in-len8
returns-in-len8 c = entry_read c.args.strict c.args.numbers.now c.requires
