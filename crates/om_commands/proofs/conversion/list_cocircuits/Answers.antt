use Rattle.std.proofs.lemmas.Result.{IfOk-weaker}
use Rattle.om_commands.proofs.ConversionLaws.{cocircuits_made, many_cocircuits}
use Rattle.om_commands.proofs.conversion.list_cocircuits.Goals as goal

pub returns-in-Ok : goal.returns-in-Ok
returns-in-Ok c = λ r of other narrow.
    let d = c.cocircuits_document.ensures in
    cocircuits_made r c.args.chirotope.now c.chirotope_to_cocircuits.ensures.lawful of c.in-Ok.cocircuits.0
    c.cocircuits_document.result other narrow d.value d.form d.axioms c.in-Ok.ensures.elements
    c.in-Ok.ensures.members c.in-Ok.ensures.same c.in-Ok.ensures.few

pub returns-in-Err : goal.returns-in-Err
returns-in-Err c =
    IfOk-weaker _ _ _
    (λ a many. many_cocircuits c.args.chirotope.now c.chirotope_to_cocircuits.ensures.lawful c.in-Err.why a
    c.in-Err.ensures.many
    many) c.refuse_list.ensures
