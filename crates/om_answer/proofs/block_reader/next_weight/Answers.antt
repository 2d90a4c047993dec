use Rattle.std.proofs.Common.{sym, ◌∙◌}
use Rattle.om_answer.specs.Block.{MOST_WEIGHTS}
use Rattle.om_answer.proofs.NextItems.{item_refused, item_added, item_over}
use Rattle.om_answer.proofs.block_reader.next_weight.Goals as goal

pub returns-in-None : goal.returns-in-None
returns-in-None c = item_refused MOST_WEIGHTS c.args.weights _ (sym c.weight_line.ensures ∙ c.in-None.is)

pub returns-in_ok-push-in-Some : goal.returns-in_ok-push-in-Some
returns-in_ok-push-in-Some c =
    item_added MOST_WEIGHTS _ _ c.args.weights c.push.new.self c.in-Some.weight _
    (sym c.weight_line.ensures ∙ c.in-Some.is) c.len.ensures c.choose.ensures.value c.if-len-choose.true
    c.in_ok-push-in-Some.ensures.ok

pub returns-else-len-choose : goal.returns-else-len-choose
returns-else-len-choose c =
    item_over MOST_WEIGHTS _ _ c.args.weights c.in-Some.weight _ (sym c.weight_line.ensures ∙ c.in-Some.is)
    c.len.ensures c.choose.ensures.value c.if-len-choose.false
