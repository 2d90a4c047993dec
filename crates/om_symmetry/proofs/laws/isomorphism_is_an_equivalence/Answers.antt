use Rattle.om_symmetry.proofs.Groups as laws
use Rattle.om_symmetry.proofs.laws.isomorphism_is_an_equivalence.Goals as goal

pub returns-clause-reflexive : goal.returns-clause-reflexive
returns-clause-reflexive c = λ m whole. laws.isomorphic_self m whole

pub returns-clause-symmetric : goal.returns-clause-symmetric
returns-clause-symmetric c = λ m k whole h. laws.isomorphic_back m k whole h

pub returns-clause-transitive : goal.returns-clause-transitive
returns-clause-transitive c = λ m k j h i. laws.isomorphic_on m k j h i
