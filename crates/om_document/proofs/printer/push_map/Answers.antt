use Rattle.std.proofs.Common.{◌∙◌}
use Rattle.om_document.proofs.Printing.{printed_map}
use Rattle.om_document.proofs.printer.push_map.Goals as goal

pub returns : goal.returns
returns c = printed_map c.push_bytes-3.result c.args.rank c.args.elements c.args.signs.now c.args.out.now.items
    _ _ _ _ _ c.in_ok-push_bytes.ensures (c.as_slice.ensures.value ∙ c.in_ok-line.ensures)
    c.in_ok-push_bytes-2.ensures c.in_ok-push_rows.ensures
    c.push_bytes-3.ensures
