use Rattle.om_minors.proofs.ListReorientations.{reoriented_circuits}
use Rattle.om_minors.proofs.circuits.reorient_circuits.Goals as goal

pub returns-clause-reorientation : goal.returns-clause-reorientation
returns-clause-reorientation c =
    reoriented_circuits c.args.c.0 c.reoriented.result c.args.mask c.reoriented.ensures.elements
    c.reoriented.ensures.members c.reoriented.ensures.lawful.lengths c.reoriented.ensures.lawful.axioms
