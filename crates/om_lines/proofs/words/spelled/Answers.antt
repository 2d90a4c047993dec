use Rattle.std.proofs.Common.{arith}
use Rattle.om_lines.proofs.Digits.{ten_small}
use Rattle.om_lines.proofs.words.spelled.Goals as goal

pub overflow_mul-number : goal.overflow_mul-number
overflow_mul-number c =
    let t = ten_small c.loop-b.b-index (omega arith) in
    let s = c.loop-b.invariant.small in
    omega arith

pub overflow_add-number : goal.overflow_add-number
overflow_add-number c =
    let t = ten_small c.loop-b.b-index (omega arith) in
    let s = c.loop-b.invariant.small in
    omega arith
