use Rattle.om_symmetry.proofs.Products.{reorientation_permutation}
use Rattle.om_symmetry.proofs.Reorientations as laws
use Rattle.om_symmetry.proofs.laws.reorientations_and_negatives.Goals as goal

pub returns-clause-permutation : goal.returns-clause-permutation
returns-clause-permutation c = λ n set. reorientation_permutation n set

pub returns-clause-reorientation : goal.returns-clause-reorientation
returns-clause-reorientation c = λ m set. laws.acted_reorientation m set

pub returns-clause-odd : goal.returns-clause-odd
returns-clause-odd c = λ m whole odd. laws.acted_odd m whole odd

pub returns-clause-even : goal.returns-clause-even
returns-clause-even c = λ m whole even. laws.acted_even m whole even

pub returns-clause-isomorphic : goal.returns-clause-isomorphic
returns-clause-isomorphic c = λ m whole odd. laws.isomorphic_negative m whole odd
