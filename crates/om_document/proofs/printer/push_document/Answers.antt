use Rattle.om_document.proofs.Printing.{printed_bytes}
use Rattle.om_document.proofs.printer.push_document.Goals as goal

pub returns : goal.returns
returns c = printed_bytes c.push_bytes.result c.args.document.now c.args.out.now.items _ _ _
    c.in_ok-push_heading.ensures c.in_ok-push_body.ensures c.push_bytes.ensures
