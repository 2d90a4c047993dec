use Rattle.std.proofs.Common.{arith}
use Rattle.std.proofs.lemmas.Grind.{common_steps}
use Rattle.om_reply.proofs.HullLaws.{items_more}
use Rattle.om_reply.proofs.hull_text.push_items.Goals as goal

pub loop-i-preserved : goal.loop-i-preserved
loop-i-preserved c = items_more c.args.text.now.items _ _ c.args.items.now c.loop-i.i c.index-items-i.result
    c.loop-i-test.true c.index-items-i.is c.loop-i.invariant c.in_ok-push_item.ensures

pub returns : goal.returns
returns c = grind (arith, common_steps)
