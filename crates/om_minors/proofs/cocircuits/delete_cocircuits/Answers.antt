use Rattle.om_minors.proofs.SetMinors.{least_cocircuits}
use Rattle.om_minors.proofs.cocircuits.delete_cocircuits.Goals as goal

pub returns-clause-deletion : goal.returns-clause-deletion
returns-clause-deletion c = least_cocircuits c.args.c.now.0 c.in_ok-least_part.field-0 c.elements.ensures.lawful
    c.args.e c.elements.result c.requires.low c.requires.high c.elements.ensures.value c.if-elements-eq1.false
    c.in_ok-least_part.ensures.elements c.in_ok-least_part.ensures.members
