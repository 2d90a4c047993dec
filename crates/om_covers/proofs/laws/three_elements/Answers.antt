use Rattle.om_covers.proofs.Triangles.{three_simple, three_uniform}
use Rattle.om_covers.proofs.laws.three_elements.Goals as goal

pub returns-clause-simple : goal.returns-clause-simple
returns-clause-simple c = three_simple

pub returns-clause-uniform : goal.returns-clause-uniform
returns-clause-uniform c = three_uniform
