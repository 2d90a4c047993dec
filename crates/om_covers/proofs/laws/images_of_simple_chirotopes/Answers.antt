use Rattle.om_covers.proofs.Simple.{acted_simple, acted_uniform}
use Rattle.om_covers.proofs.laws.images_of_simple_chirotopes.Goals as goal

pub returns-clause-simple : goal.returns-clause-simple
returns-clause-simple c = λ m w p simple. acted_simple m w p simple

pub returns-clause-uniform : goal.returns-clause-uniform
returns-clause-uniform c = λ m w p uniform. acted_uniform m w p uniform
