use Rattle.om_lines.specs.Lines.{runs}
use Rattle.om_text.proofs.PartSteps.{memory_out, point_unread, point_beyond, point_added}
use Rattle.om_text.proofs.body_lines.with_point.Goals as goal

pub returns-in_default : goal.returns-in_default
returns-in_default c = λ s. point_unread s c.args.elements c.args.points (runs c.args.line.now) c.point.result
    c.in_default.is c.point.ensures

pub returns-then-elements-len : goal.returns-then-elements-len
returns-then-elements-len c = λ s. point_beyond s c.args.elements c.args.points (runs c.args.line.now) c.point.result
    c.in-Some.found c.len.result c.in-Some.is c.point.ensures c.len.ensures c.if-elements-len.true

pub returns-in_err-push : goal.returns-in_err-push
returns-in_err-push c = λ s. memory_out c.from_residual.result _ c.from_residual.ensures.1

pub returns : goal.returns
returns c = λ s. point_added s c.args.elements c.args.points c.push.new.self (runs c.args.line.now) c.point.result
    c.in-Some.found c.len.result c.in-Some.is c.point.ensures c.len.ensures c.if-elements-len.false
    c.in_ok-push.ensures.ok
