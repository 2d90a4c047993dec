use Rattle.std.proofs.Common.{◌≡◌, ◌≤◌, [], ◌++◌, length, ap, subst, sym, rules, ◌∙◌}
use Rattle.om_signs.specs.declared.limits.TheConstants.{MAX_INPUT}
use Rattle.om_lines.specs.Lines.{lines}
use Rattle.om_document.specs.Document.{IsDocument}
use Rattle.om_document.specs.PrintTwo.{printed_two, doubled_document}
use Rattle.om_document.proofs.Halves.{members_permute}
use Rattle.om_document.proofs.RereadTwo.{printed_two_document}
use Rattle.om_document.proofs.Sizes.{printed_two_short}
use Rattle.om_document.proofs.printer_two.print_two.Goals as goal

pub returns-clause-bytes : goal.returns-clause-bytes
returns-clause-bytes c =
    let start : c.new-out.result.items ≡ [] = search rules in
    c.in_ok-push_document.ensures ∙ ap (λ x. x ++ printed_two c.args.document.now) start

pub returns-clause-again : goal.returns-clause-again
returns-clause-again c = subst (λ bytes. IsDocument (lines bytes) (doubled_document c.args.document.now))
    (sym (returns-clause-bytes c)) (printed_two_document c.args.document.now c.requires.form c.requires.closed)

pub returns-clause-short : goal.returns-clause-short
returns-clause-short c = subst (λ bytes. length bytes ≤ MAX_INPUT) (sym (returns-clause-bytes c))
    (printed_two_short c.args.document.now c.requires.form)

pub returns-clause-members : goal.returns-clause-members
returns-clause-members c = members_permute c.args.document.now.elements c.args.document.now.body c.requires.form.body
    c.requires.closed

pub returns-in_err-push_document-clause-members : goal.returns-in_err-push_document-clause-members
returns-in_err-push_document-clause-members c =
    members_permute c.args.document.now.elements c.args.document.now.body c.requires.form.body c.requires.closed
