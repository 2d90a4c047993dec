use Rattle.std.proofs.Common.{refl, sym, ◌∙◌, ◌≤◌, length, arith}
use Rattle.om_document.specs.PrintTwo.{values_in_revlex}
use Rattle.om_document.proofs.Orders.{length-values_in_revlex}
use Rattle.om_document.proofs.PrintingTwo.{value_rows_more, value_rows_end}
use Rattle.om_document.proofs.printer_two.push_values.Goals as goal

pub loop-first-preserved : goal.loop-first-preserved
loop-first-preserved c = record {
  same = value_rows_more c.loop-first.out.items _ _ (values_in_revlex c.args.raw.now) c.loop-first.first
      c.choose-count.result c.min.result _ c.loop-first-test.true
      (c.choose-count.ensures.value ∙ sym (length-values_in_revlex c.args.raw.now)) c.min.ensures refl
      c.in_ok-push_value_row.ensures c.loop-first.invariant.same;
  within = omega (arith, c.min.ensures);
}

pub returns : goal.returns
returns c =
    let n = length-values_in_revlex c.args.raw.now in
    let past : length (values_in_revlex c.args.raw.now) ≤ c.loop-first.first =
    omega (arith, c.choose-count.ensures.value, c.loop-first-test.false) in
    value_rows_end c.loop-first.out.items _ (values_in_revlex c.args.raw.now) c.loop-first.first past
    c.loop-first.invariant.same
