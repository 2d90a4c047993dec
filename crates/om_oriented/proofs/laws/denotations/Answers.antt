use Rattle.om_denotation.proofs.FamilyLaws.{orthogonal_both, parts_both}
use Rattle.om_oriented.proofs.laws.denotations.Goals as goal

pub returns-clause-circuits : goal.returns-clause-circuits
returns-clause-circuits c = λ m chirotope X l. orthogonal_both m chirotope X l

pub returns-clause-cocircuits : goal.returns-clause-cocircuits
returns-clause-cocircuits c = λ m chirotope X l. parts_both m chirotope X l
