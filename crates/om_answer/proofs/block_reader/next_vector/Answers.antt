use Rattle.std.proofs.Common.{sym, refl, ◌∙◌}
use Rattle.om_answer.specs.Block.{MOST_VECTORS}
use Rattle.om_answer.proofs.NextItems.{item_refused, item_added, item_over}
use Rattle.om_answer.proofs.block_reader.next_vector.Goals as goal

pub returns-in-None : goal.returns-in-None
returns-in-None c = sym (item_refused MOST_VECTORS c.args.word _ (sym c.vector_line.ensures ∙ c.in-None.is))

pub returns-then-len-lt-MAX_ELEMENTS : goal.returns-then-len-lt-MAX_ELEMENTS
returns-then-len-lt-MAX_ELEMENTS c =
    sym (item_added MOST_VECTORS _ _ c.args.word c.push.new.self c.in-Some.vector _
    (sym c.vector_line.ensures ∙ c.in-Some.is) c.len.ensures.value refl c.if-len-lt-MAX_ELEMENTS.true c.push.ensures)

pub returns-else-len-lt-MAX_ELEMENTS : goal.returns-else-len-lt-MAX_ELEMENTS
returns-else-len-lt-MAX_ELEMENTS c =
    sym (item_over MOST_VECTORS _ _ c.args.word c.in-Some.vector _ (sym c.vector_line.ensures ∙ c.in-Some.is)
    c.len.ensures.value refl c.if-len-lt-MAX_ELEMENTS.false)
