use Rattle.std.proofs.Common.{arith}
use Rattle.std.proofs.lemmas.Grind.{common_steps}
use Rattle.om_reply.specs.VerdictText.{vector_numbers}
use Rattle.om_reply.proofs.PointTextLaws.{points_more_of, each_more}
use Rattle.om_reply.proofs.made_text.points_document.Goals as goal

pub loop-v-preserved : goal.loop-v-preserved
loop-v-preserved c = record {
  points = points_more_of c.as_slice-v-items.result.now c.args.vectors.now c.as_slice-v-items.ensures.value
      c.loop-v.v-index _
      c.v-item.result c.loop-v.points c.push_point.new.points c.loop-v-test.true c.v-item.is c.loop-v.invariant.points
      c.in_ok-push_point.ensures.pushed;
  each = each_more c.loop-v.points c.push_point.new.points (vector_numbers c.v-item.result)
      c.in_ok-push_point.ensures.pushed c.in_ok-push_point.ensures.point c.loop-v.invariant.each;
}

pub returns-clause-value : goal.returns-clause-value
returns-clause-value c = grind (arith, common_steps)

pub returns-clause-each : goal.returns-clause-each
returns-clause-each c = grind (arith, common_steps)
