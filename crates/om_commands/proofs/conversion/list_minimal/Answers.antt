use Rattle.om_commands.proofs.ConversionLaws.{minimal_made}
use Rattle.om_commands.proofs.conversion.list_minimal.Goals as goal

pub returns-in-Ok : goal.returns-in-Ok
returns-in-Ok c =
    let d = c.cocircuits_document.ensures in
    let given = c.covectors_to_cocircuits.ensures.lawful in
    minimal_made c.args.covectors.now c.in-Ok.cocircuits.0 c.cocircuits_document.result d.value d.form d.axioms
    c.in-Ok.ensures.elements given.lengths c.in-Ok.ensures.members c.in-Ok.ensures.same
