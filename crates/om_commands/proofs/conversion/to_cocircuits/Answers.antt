use Rattle.std.specs.Prelude.{refl}
use Rattle.std.proofs.lemmas.Result.{IfOk-weaker}
use Rattle.om_document.specs.declared.kinds.Kind.TheVariants as kind
use Rattle.om_representation.specs.Documents.{document_of, cocircuits_document}
use Rattle.om_commands.proofs.ConversionLaws.{own_converted, from_chirotope, wide_answered}
use Rattle.om_commands.proofs.conversion.to_cocircuits.Goals as goal

pub returns-in-Cocircuits : goal.returns-in-Cocircuits
returns-in-Cocircuits c =
    let d = c.cocircuits_document.ensures in
    rw c.in-Cocircuits.is
    (own_converted kind.Cocircuits (cocircuits_document c.in-Cocircuits.cocircuits.0) c.cocircuits_document.result
    refl d.value d.form d.axioms)

pub returns-in-Covectors : goal.returns-in-Covectors
returns-in-Covectors c = rw c.in-Covectors.is c.list_minimal.ensures

pub returns-in-Ok : goal.returns-in-Ok
returns-in-Ok c =
    let e = c.in-Ok.ensures in
    IfOk-weaker _ _ _
    (λ a from. from_chirotope kind.Cocircuits c.args.representation c.in-Ok.chirotope e.chosen
    (rw c.in-Circuits.is refl) e.kept a from) c.list_cocircuits-in-Ok.ensures

pub returns-in_ok-width_line-in-Err : goal.returns-in_ok-width_line-in-Err
returns-in_ok-width_line-in-Err c =
    wide_answered kind.Cocircuits (document_of c.args.representation) c.in-Err.why _ (rw c.in-Circuits.is refl)
    (rw c.in-Circuits.is refl) c.in-Err.ensures.refused c.in_ok-width_line-in-Err.ensures.line
