use Rattle.om_minors.proofs.SetMinors.{zero_circuits}
use Rattle.om_minors.proofs.circuits.delete_circuits.Goals as goal

pub returns-clause-deletion : goal.returns-clause-deletion
returns-clause-deletion c = zero_circuits c.args.c.now.0 c.in_ok-zero_part.field-0 c.elements.ensures.lawful c.args.e
    c.elements.result c.requires.low c.requires.high c.elements.ensures.value c.if-elements-eq1.false
    c.in_ok-zero_part.ensures.elements c.in_ok-zero_part.ensures.members
