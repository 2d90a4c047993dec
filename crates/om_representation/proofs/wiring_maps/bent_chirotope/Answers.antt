use Rattle.om_representation.proofs.wiring_maps.bent_chirotope.Goals as goal

pub returns-in-Err-FlatRank-clause-refused : goal.returns-in-Err-FlatRank-clause-refused
returns-in-Err-FlatRank-clause-refused c = (c.requires, c.chirotope.ensures.flat.0 (cc))
