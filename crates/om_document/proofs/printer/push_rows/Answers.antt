use Rattle.om_document.proofs.Printing.{rows_more, not_empty}
use Rattle.om_document.proofs.printer.push_rows.Goals as goal

pub loop-rest-preserved : goal.loop-rest-preserved
loop-rest-preserved c = rows_more c.loop-rest.out.items c.push_row.new.out.items _ c.loop-rest.rest.now c.min-len.result
    (not_empty _ _ c.is_empty.ensures c.loop-rest-test.true) c.min-len.ensures c.in_ok-push_row.ensures
    c.loop-rest.invariant
