use Rattle.std.proofs.Common.{◌∙◌}
use Rattle.om_document.proofs.Coordinates.{point_bytes}
use Rattle.om_document.proofs.Printing.{pushed}
use Rattle.om_document.proofs.printer.push_point.Goals as goal

pub returns : goal.returns
returns c =
    pushed c.push_bytes.result _ _ _ _ (c.as_slice.ensures.value ∙ c.in_ok-text.ensures
    ∙ point_bytes c.args.point c.requires) c.push_bytes.ensures
