use Rattle.std.proofs.Common.{sym, subst, ◌∙◌}
use Rattle.om_document.specs.declared.document.Document.{Document}
use Rattle.om_representation.specs.Documents.{document_of}
use Rattle.om_representation.specs.Widths.{HasFewValues}
use Rattle.om_representation.proofs.WidthLaws.{few_unless_rank3, few_worked_on}
use Rattle.om_commands.proofs.KeepingLaws.{given_kept, given_unkept, never_flat, not_flat}
use Rattle.om_commands.proofs.keeping.keep_given.Goals as goal

pub document_of-elements-requires : goal.document_of-elements-requires
document_of-elements-requires g c =
    let P : Document → Type 0 = HasFewValues in
    few_unless_rank3 (document_of c.in-Ok.representation)
    (subst P (sym c.in-Ok.ensures.value) (few_worked_on _ c.requires.form))

pub returns-in-Ok : goal.returns-in-Ok
returns-in-Ok g c = given_kept c.args.elements c.args.body c.args.names c.document_of-elements.result
    c.requires.given (c.document_of-elements.ensures.value ∙ c.in-Ok.ensures.value) c.in-Ok.ensures.accepted

pub of-requires : goal.of-requires
of-requires g c =
    not_flat c.args.elements c.args.body _ (never_flat c.args.elements c.args.body c.requires.given)
    c.in-Err.ensures.refused

pub returns-in-Err : goal.returns-in-Err
returns-in-Err g c =
    rw c.of.ensures
    (given_unkept c.args.elements c.args.body c.args.names _ c.requires.given c.in-Err.ensures.refused)
