use Rattle.om_minors.proofs.SetMinors.{least_circuits}
use Rattle.om_minors.proofs.circuits.contract_circuits.Goals as goal

pub returns-clause-contraction : goal.returns-clause-contraction
returns-clause-contraction c =
    least_circuits c.args.c.now.0 c.in_ok-least_part.field-0 c.elements.ensures.lawful c.args.e c.elements.result
    c.requires.low c.requires.high c.elements.ensures.value c.if-elements-eq1.false
    c.in_ok-least_part.ensures.elements c.in_ok-least_part.ensures.members
