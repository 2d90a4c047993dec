use Rattle.std.proofs.Common.{arith}
use Rattle.om_convert.specs.Hitting.{IsNonzeroOn}
use Rattle.om_convert.proofs.MeetingLaws.{met_more, met_all}
use Rattle.om_convert.proofs.hitting.missed_vector.Goals as goal

pub loop-y-init : goal.loop-y-init
loop-y-init c = λ k l. absurd (omega arith)

pub loop-y-preserved : goal.loop-y-preserved
loop-y-preserved c = met_more c.args.vectors.now (IsNonzeroOn c.args.s.elements) c.loop-y.y-index c.y-item.result
    c.loop-y-test.true c.y-item.is c.loop-y.invariant (c.meets.ensures.0 c.if-not-meets.false)

pub returns-clause-none : goal.returns-clause-none
returns-clause-none c = met_all c.args.vectors.now (IsNonzeroOn c.args.s.elements) c.loop-y.y-index c.loop-y-test.false
    c.loop-y.invariant
