use Rattle.om_symmetry.proofs.Products as laws
use Rattle.om_symmetry.proofs.laws.group_of_signed_permutations.Goals as goal

pub returns-clause-product : goal.returns-clause-product
returns-clause-product c = λ n w v p q. laws.product_permutation n w v p q

pub returns-clause-identity : goal.returns-clause-identity
returns-clause-identity c = λ n. laws.identity_permutation n

pub returns-clause-neutral : goal.returns-clause-neutral
returns-clause-neutral c = λ n w p. (laws.neutral_behind n w p, laws.neutral_before n w p)

pub returns-clause-associative : goal.returns-clause-associative
returns-clause-associative c = λ w v u. laws.product_associates w v u

pub returns-clause-inverse : goal.returns-clause-inverse
returns-clause-inverse c = λ n w p. let v = laws.inverse_exists n w p in (v.0, v.1.permutation, v.1.inverse)
