use Rattle.std.proofs.Common.{sym, ◌∙◌}
use Rattle.om_lines.specs.Lines.{runs}
use Rattle.om_text.proofs.PointLines.{no_x, no_y, no_z, longer, whole_point}
use Rattle.om_text.proofs.points.point.Goals as goal

pub returns-in_err-x : goal.returns-in_err-x
returns-in_err-x c = c.from_residual.ensures ∙ sym (no_x (runs c.args.line.now) c.in_err-x.ensures)

pub returns-in_err-y : goal.returns-in_err-y
returns-in_err-y c = c.from_residual-in_err-y.ensures
    ∙ sym (no_y (runs c.args.line.now) (runs c.in_ok-x.rest.now) c.in_ok-x.x c.in_ok-x.ensures c.in_err-y.ensures)

pub returns-in_err-z : goal.returns-in_err-z
returns-in_err-z c = c.from_residual-in_err-z.ensures
    ∙ sym (no_z (runs c.args.line.now) (runs c.in_ok-x.rest.now) (runs c.in_ok-y.rest.now) c.in_ok-x.x c.in_ok-y.y
    c.in_ok-x.ensures c.in_ok-y.ensures c.in_err-z.ensures)

pub returns-then-has_no_words : goal.returns-then-has_no_words
returns-then-has_no_words c =
    whole_point (runs c.args.line.now) (runs c.in_ok-x.rest.now) (runs c.in_ok-y.rest.now) (runs c.in_ok-z.rest.now)
    c.in_ok-x.x c.in_ok-y.y c.in_ok-z.z c.in_ok-x.ensures c.in_ok-y.ensures c.in_ok-z.ensures
    (sym c.has_no_words.ensures ∙ c.if-has_no_words.true)

pub returns-else-has_no_words : goal.returns-else-has_no_words
returns-else-has_no_words c = sym (
    longer (runs c.args.line.now) (runs c.in_ok-x.rest.now) (runs c.in_ok-y.rest.now) (runs c.in_ok-z.rest.now)
    c.in_ok-x.x c.in_ok-y.y c.in_ok-z.z c.in_ok-x.ensures c.in_ok-y.ensures c.in_ok-z.ensures
    (sym c.has_no_words.ensures ∙ c.if-has_no_words.false))
