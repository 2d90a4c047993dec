use Rattle.std.proofs.Common.{take, ap, ◌∙◌}
use Rattle.om_lines.proofs.Scan.{comment_first}
use Rattle.om_lines.proofs.lines.before_comment.Goals as goal

pub returns : goal.returns
returns c = ap (λ k. take k c.args.line.now) c.len_before-end.ensures.value ∙ comment_first c.args.line.now
