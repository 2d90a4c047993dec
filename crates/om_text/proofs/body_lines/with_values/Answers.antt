use Rattle.std.proofs.Common.{arith}
use Rattle.om_lines.specs.Lines.{runs}
use Rattle.om_text.proofs.PartSteps.{signs_counted, no_signs_counted, no_values_read, values_beyond, values_added}
use Rattle.om_text.proofs.body_lines.with_values.Goals as goal

pub returns-in_default : goal.returns-in_default
returns-in_default c = λ n s. no_values_read s n c.args.map (runs c.args.line.now)
    (no_signs_counted (runs c.args.line.now) c.sign_count.result c.in_default.is c.sign_count.ensures)

pub returns-then-room-size : goal.returns-then-room-size
returns-then-room-size c = λ n s.
    let k = signs_counted (runs c.args.line.now) c.sign_count.result c.in-Some.count c.in-Some.is
    c.sign_count.ensures in
    values_beyond s n c.args.map (runs c.args.line.now) k.0 (omega (arith, k.1))

pub returns : goal.returns
returns c = λ n s.
    let k = signs_counted (runs c.args.line.now) c.sign_count.result c.in-Some.count c.in-Some.is
    c.sign_count.ensures in
    values_added s n c.args.map (runs c.args.line.now) _ k.0 (omega (arith, k.1)) c.in_ok-push_signs.ensures
