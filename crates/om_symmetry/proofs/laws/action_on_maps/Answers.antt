use Rattle.std.proofs.Common.{sym}
use Rattle.om_symmetry.proofs.Groups as laws
use Rattle.om_symmetry.proofs.laws.action_on_maps.Goals as goal

pub returns-clause-product : goal.returns-clause-product
returns-clause-product c = λ m w v p q. sym (laws.acted_twice m w v p q)

pub returns-clause-identity : goal.returns-clause-identity
returns-clause-identity c = λ m whole. laws.acted_identity m whole

pub returns-clause-inverse : goal.returns-clause-inverse
returns-clause-inverse c = λ m w v whole p q h. laws.acted_back m whole w v p q h.then_back
