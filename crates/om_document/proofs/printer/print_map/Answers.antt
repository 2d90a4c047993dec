use Rattle.std.proofs.Common.{◌≡◌, [], ◌++◌, ap, rules, ◌∙◌}
use Rattle.om_document.specs.Print.{printed, unnamed_map}
use Rattle.om_document.proofs.printer.print_map.Goals as goal

pub returns : goal.returns
returns c =
    let start : c.new-out.result.items ≡ [] = search rules in
    c.in_ok-push_map.ensures
    ∙ ap (λ x. x ++ printed (unnamed_map c.args.rank c.args.elements c.args.signs.now)) start
