use Rattle.std.proofs.Common.{◌≡◌, ◌≤◌, [], ◌++◌, length, ap, subst, sym, rules, ◌∙◌}
use Rattle.om_signs.specs.declared.limits.TheConstants.{MAX_INPUT}
use Rattle.om_lines.specs.Lines.{lines}
use Rattle.om_document.specs.Document.{IsDocument}
use Rattle.om_document.specs.Print.{printed, sorted_document}
use Rattle.om_document.proofs.Reread.{printed_document}
use Rattle.om_document.proofs.Sizes.{printed_short}
use Rattle.om_document.proofs.printer.print.Goals as goal

pub returns-clause-bytes : goal.returns-clause-bytes
returns-clause-bytes c =
    let start : c.new-out.result.items ≡ [] = search rules in
    c.in_ok-push_document.ensures ∙ ap (λ x. x ++ printed c.args.document.now) start

pub returns-clause-again : goal.returns-clause-again
returns-clause-again c = subst (λ bytes. IsDocument (lines bytes) (sorted_document c.args.document.now))
    (sym (returns-clause-bytes c)) (printed_document c.args.document.now c.requires.form)

pub returns-clause-short : goal.returns-clause-short
returns-clause-short c = subst (λ bytes. length bytes ≤ MAX_INPUT) (sym (returns-clause-bytes c))
    (printed_short c.args.document.now c.requires.form)
