use Rattle.std.proofs.Common.{◌≤◌, arith}
use Rattle.om_signs.specs.declared.limits.TheConstants.{MAX_POSITION}
use Rattle.om_document.proofs.BlockWords.{plain_small}
use Rattle.om_text.proofs.blocks.position_of.Goals as goal

pub overflow_cast-result : goal.overflow_cast-result
overflow_cast-result c = let s : c.in_ok-number.number ≤ MAX_POSITION =
    plain_small c.args.word.now _ c.if-word-gt-MAX_POSITION_DIGITS.false c.in_ok-number.ensures in omega arith
