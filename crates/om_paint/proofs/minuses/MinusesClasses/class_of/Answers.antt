use Rattle.std.proofs.Common.{sym, ◌∙◌, arith, w32, length}
use Rattle.std.specs.Int.{trailing_zeros}
use Rattle.om_signs.proofs.Bits.{one_shl_32, bit_within}
use Rattle.om_paint.proofs.Masks.{no_minus_class, one_minus_class, no_class, lowest_minus, lowest_small}
use Rattle.om_paint.proofs.minuses.MinusesClasses.class_of.Goals as goal

pub returns-then-minus-eq0-clause-class : goal.returns-then-minus-eq0-clause-class
returns-then-minus-eq0-clause-class c =
    no_minus_class c.args.x c.minus-minus.result c.minus-minus.ensures c.if-minus-eq0.true

pub returns-then-minus-place-clause-class : goal.returns-then-minus-place-clause-class
returns-then-minus-place-clause-class c =
    one_minus_class c.args.x c.minus-minus.result c.minus-minus.ensures (trailing_zeros w32 c.minus-minus.result)
    (c.if-minus-place.true ∙ one_shl_32 (trailing_zeros w32 c.minus-minus.result)
    (lowest_small c.minus-minus.result c.if-minus-eq0.false c.minus-minus.type_inv))

pub returns-then-minus-place-clause-few : goal.returns-then-minus-place-clause-few
returns-then-minus-place-clause-few c =
    let lt = bit_within c.minus-minus.result (length c.args.x) (trailing_zeros w32 c.minus-minus.result)
    c.minus-minus.ensures.within (lowest_minus c.minus-minus.result c.if-minus-eq0.false c.minus-minus.type_inv)
    in
    let size = c.requires.size in
    let valid = c.requires.valid in
    omega (arith, lt, size, valid)

pub returns-else-minus-place-clause-class : goal.returns-else-minus-place-clause-class
returns-else-minus-place-clause-class c = λ i. (
  λ h. absurd (no_class c.args.x c.minus-minus.result c.minus-minus.ensures (trailing_zeros w32 c.minus-minus.result)
      (lowest_minus c.minus-minus.result c.if-minus-eq0.false c.minus-minus.type_inv)
      (λ e. c.if-minus-place.false
      (e ∙ sym (one_shl_32 (trailing_zeros w32 c.minus-minus.result)
      (lowest_small c.minus-minus.result c.if-minus-eq0.false c.minus-minus.type_inv)))) i h),
  λ e. cc,
)
