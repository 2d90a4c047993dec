use Rattle.std.proofs.Common.{◌∙◌, ap, arith, ◌<◌, length, ◌++◌, ◌∷◌, []}
use Rattle.std.proofs.Math.Nat.{le_antisymm}
use Rattle.om_document.specs.PrintTwo.{values_in_revlex}
use Rattle.om_document.proofs.Orders.{length-values_in_revlex}
use Rattle.om_document.proofs.PrintingTwo.{values_more}
use Rattle.om_document.proofs.printer_two.push_value_row.Goals as goal

pub loop-place-preserved : goal.loop-place-preserved
loop-place-preserved c =
    let n = length-values_in_revlex c.args.raw.now in
    let within : c.loop-place.place < length (values_in_revlex c.args.raw.now) = omega arith in
    values_more c.args.out.now.items _ _ (values_in_revlex c.args.raw.now) c.args.first c.loop-place.place
    c.value_at.result (omega arith) within c.value_at.ensures c.loop-place.invariant
    (c.in_ok-push.ensures.items ∙ ap (λ b. c.loop-place.out.items ++ b ∷ []) c.byte_of_sign.ensures)

pub returns : goal.returns
returns c =
    let e = le_antisymm (c.loop-place.auto.place-end c.requires.order) c.loop-place-test.false in
    c.in_ok-push-2.ensures.items ∙ ap (λ ys. ys ++ 10 ∷ []) (rw e at c.loop-place.invariant)
