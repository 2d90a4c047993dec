use Rattle.om_document.proofs.Printing.{points_more}
use Rattle.om_document.specs.Print.{text_of, point_lines}
use Rattle.om_document.proofs.Pushes.{taken_all}
use Rattle.om_document.proofs.printer.push_points.Goals as goal

pub loop-point-preserved : goal.loop-point-preserved
loop-point-preserved c = points_more c.args.out.now.items _ _ c.args.points.now c.loop-point.point-index
    c.loop-point-test.true c.loop-point.invariant c.in_ok-push_point.ensures

pub returns : goal.returns
returns c =
    taken_all (λ ps. text_of (point_lines ps)) c.args.points.now c.loop-point.point-index c.loop-point.out.items
    c.args.out.now.items c.loop-point-test.false c.loop-point.invariant
