use Rattle.std.proofs.Common.{map}
use Rattle.std.specs.Prelude.{decimal}
use Rattle.om_reply.proofs.BlockTexts.{on_ok, line_whole}
use Rattle.om_reply.proofs.verdict_lines.push_named.Goals as goal

pub returns : goal.returns
returns c =
    on_ok c.push-2.result
    (line_whole c.args.name.now (map decimal c.args.numbers.now) c.args.text.now.items c.push.new.text.items
    c.push_numbers.new.text.items c.push-2.new.text.items c.in_ok-push.ensures.ok c.in_ok-push_numbers.ensures)
    c.push-2.ensures.ok
