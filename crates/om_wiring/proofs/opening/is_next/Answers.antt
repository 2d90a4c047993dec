use Rattle.om_wiring.specs.Scans.{position_in, IsNotBefore}
use Rattle.om_wiring.proofs.OpeningLaws.{each_more}
use Rattle.om_wiring.proofs.opening.is_next.Goals as goal

pub loop-c-preserved : goal.loop-c-preserved
loop-c-preserved c =
    each_more c.args.chi.now.elements c.loop-c.c
    (IsNotBefore c.args.chi.now (position_in c.args.order.now) c.args.p c.args.b) c.loop-c.invariant
    (c.is_not_before.ensures.0 c.if-not-is_not_before.false)
