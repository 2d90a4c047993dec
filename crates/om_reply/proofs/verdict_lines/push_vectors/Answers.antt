use Rattle.std.proofs.Common.{arith}
use Rattle.std.proofs.lemmas.Grind.{common_steps}
use Rattle.om_reply.specs.VerdictText.{vector_words}
use Rattle.om_reply.proofs.BlockTexts.{lines_more}
use Rattle.om_reply.proofs.verdict_lines.push_vectors.Goals as goal

pub loop-vector-preserved : goal.loop-vector-preserved
loop-vector-preserved c = lines_more vector_words c.args.text.now.items _ _ c.args.vectors.now
    c.loop-vector.vector-index _ c.vector-item.result c.loop-vector-test.true c.vector-item.is c.loop-vector.invariant
    c.in_ok-push_vector.ensures

pub returns : goal.returns
returns c = grind (arith, common_steps)
