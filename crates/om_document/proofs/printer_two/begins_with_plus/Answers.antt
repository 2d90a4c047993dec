use Rattle.std.proofs.Common.{◌∙◌, ap, is_le}
use Rattle.om_signs.specs.Order.{lexicographic}
use Rattle.om_document.proofs.Pushes.{begun_by_order}
use Rattle.om_document.proofs.printer_two.begins_with_plus.Goals as goal

pub returns : goal.returns
returns c =
    c.le.ensures
    ∙ ap (λ y. is_le (lexicographic y c.args.member)) c.neg.ensures
    ∙ begun_by_order c.args.member
