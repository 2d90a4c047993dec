use Rattle.om_document.specs.PrintTwo.{printed_names}
use Rattle.om_document.proofs.PrintingTwo.{names_line_end}
use Rattle.om_document.proofs.printer_two.push_names_line.Goals as goal

pub returns : goal.returns
returns c =
    names_line_end c.push_bytes-2.result c.args.out.now.items _ _ _ (printed_names c.args.elements c.args.names.now)
    c.in_ok-push_bytes.ensures
    c.in_ok-push_printed_names.ensures
    c.push_bytes-2.ensures
