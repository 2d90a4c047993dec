use Rattle.std.proofs.Common.{[], ◌∷◌}
use Rattle.om_lines.specs.Lines.{end_line}
use Rattle.om_reply.specs.VerdictText.{word_line, verdict_name, verdict_lines}
use Rattle.om_reply.proofs.BlockTexts.{on_ok, lines_after}
use Rattle.om_reply.proofs.verdict_lines.push_block.Goals as goal

pub returns : goal.returns
returns c =
    on_ok c.push.result
    (lines_after (word_line (verdict_name c.args.verdict.now) ∷ verdict_lines c.args.verdict.now) (end_line ∷ [])
    c.args.text.now.items c.push_lines.new.text.items c.push.new.text.items c.in_ok-push_lines.ensures)
    c.push.ensures.ok
