use Rattle.om_reply.specs.VerdictText.{stage_name}
use Rattle.om_reply.proofs.BlockTexts.{on_ok, width_named}
use Rattle.om_reply.proofs.verdict_lines.push_width.Goals as goal

pub returns : goal.returns
returns c =
    on_ok c.push_named.result
    (width_named (stage_name c.args.stage) c.width_name.result.now c.from.result c.args.pivot c.from-2.result c.args.row
    c.from-3.result c.args.place c.args.text.now.items c.push_named.new.text.items c.width_name.ensures c.from.ensures
    c.from-2.ensures c.from-3.ensures) c.push_named.ensures
