use Rattle.std.proofs.Common.{sym, ◌∙◌, arith, ◌<◌, min, w32}
use Rattle.om_signs.specs.Order.{sign_order}
use Rattle.om_signs.proofs.Order.{at_place, order_here, order_of_lengths, differing}
use Rattle.om_signs.specs.Masks.{length-signs_of}
use Rattle.std.specs.Int.{trailing_zeros}
use Rattle.om_signs.proofs.sign_vec.SignVecOrd.cmp.Goals as goal

pub get-requires-clause-high : goal.get-requires-clause-high
get-requires-clause-high c =
    omega (
      arith,
      length-signs_of c.self.inside.plus c.self.inside.minus c.self.inside.len,
      c.min.ensures,
      c.from.ensures,
      c.if-place-from.true,
    )

pub get-requires-then-place-from-clause-high : goal.get-requires-then-place-from-clause-high
get-requires-then-place-from-clause-high c =
    omega (
      arith,
      length-signs_of c.other.inside.plus c.other.inside.minus c.other.inside.len,
      c.min.ensures,
      c.from.ensures,
      c.if-place-from.true,
    )

pub returns-then-place-from : goal.returns-then-place-from
returns-then-place-from c =
    let here = c.get.ensures ∙ at_place _ _ _ c.self.view_is in
    let there = c.get-then-place-from.ensures ∙ at_place _ _ _ c.other.view_is in
    let below : trailing_zeros w32
    (differing c.self.inside.plus c.self.inside.minus c.other.inside.plus c.other.inside.minus)
    < min c.self.inside.len c.other.inside.len =
    omega (arith, c.min.ensures, c.from.ensures, c.if-place-from.true) in
    c.cmp.ensures ∙ (λ i. sign_order (here i) (there i))
    ∙ sym (order_here _ _ _ _ _ _ _ _ c.self.invariant c.self.view_is c.other.invariant c.other.view_is below)

pub returns-else-place-from : goal.returns-else-place-from
returns-else-place-from c =
    c.cmp-else-place-from.ensures
    ∙ sym (order_of_lengths _ _ _ _ _ _ _ _ c.self.invariant c.self.view_is c.other.invariant c.other.view_is
    (let a = c.min.ensures in let b = c.from.ensures in let d = c.if-place-from.false in omega arith))
