use Rattle.std.specs.Prelude.{decimal}
use Rattle.std.proofs.Common.{arith}
use Rattle.std.proofs.lemmas.Grind.{common_steps}
use Rattle.om_reply.proofs.BlockTexts.{tail_more}
use Rattle.om_reply.proofs.verdict_lines.push_numbers.Goals as goal

pub loop-number-preserved : goal.loop-number-preserved
loop-number-preserved c = tail_more decimal c.args.text.now.items _ _ c.args.numbers.now c.loop-number.number-index 0
    c.from.result c.loop-number-test.true c.from.ensures c.loop-number.invariant c.in_ok-push_number.ensures

pub returns : goal.returns
returns c = grind (arith, common_steps)
