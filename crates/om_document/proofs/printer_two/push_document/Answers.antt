use Rattle.std.proofs.Common.{◌++◌, ◌∷◌, [], ap, ◌∙◌}
use Rattle.std.specs.Prelude.{codes}
use Rattle.om_document.specs.Print.{text_of, spaced}
use Rattle.om_document.specs.PrintTwo.{printed_names}
use Rattle.om_document.proofs.PrintingTwo.{printed_two_bytes}
use Rattle.om_document.proofs.printer_two.push_document.Goals as goal

pub returns : goal.returns
returns c =
    let d = c.args.document.now in
    printed_two_bytes c.push_bytes.result d c.args.out.now.items _ _ _ _ c.in_ok-push_heading.ensures
    (c.in_ok-push_names_line.ensures
    ∙ ap (λ ws. c.push_heading.new.out.items ++ text_of (spaced (codes "names" ∷ printed_names d.elements ws) ∷ []))
    c.as_slice.ensures)
    c.in_ok-push_body.ensures c.push_bytes.ensures
