use Rattle.om_minors.proofs.ListReorientations.{reoriented_cocircuits}
use Rattle.om_minors.proofs.cocircuits.reorient_cocircuits.Goals as goal

pub returns-clause-reorientation : goal.returns-clause-reorientation
returns-clause-reorientation c =
    reoriented_cocircuits c.args.c.0 c.reoriented.result c.args.mask c.reoriented.ensures.elements
    c.reoriented.ensures.members c.reoriented.ensures.lawful.lengths c.reoriented.ensures.lawful.axioms
