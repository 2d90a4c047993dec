use Rattle.std.proofs.Common.{refl, arith}
use Rattle.std.proofs.lemmas.Grind.{common_steps}
use Rattle.om_reply.specs.VerdictText.{weight_words}
use Rattle.om_reply.proofs.BlockTexts.{lines_more}
use Rattle.om_reply.proofs.verdict_lines.push_weights.Goals as goal

pub loop-weight-preserved : goal.loop-weight-preserved
loop-weight-preserved c = lines_more weight_words c.args.text.now.items _ _ c.args.weights.now
    c.loop-weight.weight-index _ _ c.loop-weight-test.true refl c.loop-weight.invariant c.in_ok-push_weight.ensures

pub returns : goal.returns
returns c = grind (arith, common_steps)
