use Rattle.std.proofs.lemmas.Result.{IfOk-weaker}
use Rattle.om_commands.proofs.ConversionLaws.{covectors_made, many_covectors}
use Rattle.om_commands.proofs.conversion.list_covectors.Goals as goal

pub returns-in-Ok : goal.returns-in-Ok
returns-in-Ok c = λ r of other narrow.
    let d = c.covectors_document.ensures in
    covectors_made r c.args.chirotope.now c.chirotope_to_covectors.ensures.lawful of c.in-Ok.covectors
    c.covectors_document.result
    other narrow d.value d.form d.axioms c.in-Ok.ensures.elements c.in-Ok.ensures.members c.in-Ok.ensures.same
    c.in-Ok.ensures.few

pub returns-in-Err : goal.returns-in-Err
returns-in-Err c =
    IfOk-weaker _ _ _
    (λ a many. many_covectors c.args.chirotope.now c.chirotope_to_covectors.ensures.lawful c.in-Err.why a
    c.in-Err.ensures.many many)
    c.refuse_list.ensures
