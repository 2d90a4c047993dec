use Rattle.om_representation.proofs.chirotope_choice.choose_chirotope.Goals as goal

pub returns-in-Circuits-clause-kept : goal.returns-in-Circuits-clause-kept
returns-in-Circuits-clause-kept c = rw c.in-Circuits.is c.of_circuits.ensures.kept

pub returns-in-Cocircuits-clause-kept : goal.returns-in-Cocircuits-clause-kept
returns-in-Cocircuits-clause-kept c = rw c.in-Cocircuits.is c.of_cocircuits.ensures.kept

pub returns-in-Covectors-clause-kept : goal.returns-in-Covectors-clause-kept
returns-in-Covectors-clause-kept c = rw c.in-Covectors.is c.of_covectors.ensures.kept
