use Rattle.std.proofs.Common.{refl, ap, ◌∙◌, ◌++◌}
use Rattle.std.proofs.Math.Nat.{le_antisymm}
use Rattle.om_document.proofs.PrintingTwo.{numbers_more}
use Rattle.om_document.proofs.printer_two.push_numbered_names.Goals as goal

pub loop-index-preserved : goal.loop-index-preserved
loop-index-preserved c = numbers_more c.args.out.now.items _ _ _ c.loop-index.index _ refl c.loop-index.invariant
    c.in_ok-name.ensures (c.in_ok-push_bytes.ensures ∙ ap (λ x. c.loop-index.out.items ++ x) c.as_slice.ensures.value)

pub returns : goal.returns
returns c = rw (le_antisymm c.loop-index-test.false c.loop-index.auto.index-end) c.loop-index.invariant
