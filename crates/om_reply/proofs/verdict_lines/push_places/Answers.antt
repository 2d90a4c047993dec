use Rattle.std.specs.Prelude.{decimal}
use Rattle.std.proofs.Common.{arith}
use Rattle.std.proofs.lemmas.Grind.{common_steps}
use Rattle.om_reply.proofs.BlockTexts.{tail_more}
use Rattle.om_reply.proofs.verdict_lines.push_places.Goals as goal

pub loop-place-preserved : goal.loop-place-preserved
loop-place-preserved c = tail_more decimal c.args.text.now.items _ _ c.args.basis.now c.loop-place.place-index 0
    c.from.result c.loop-place-test.true c.from.ensures c.loop-place.invariant c.in_ok-push_number.ensures

pub returns : goal.returns
returns c = grind (arith, common_steps)
