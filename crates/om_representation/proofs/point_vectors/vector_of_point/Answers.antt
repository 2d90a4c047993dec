use Rattle.std.proofs.Common.{rules}
use Rattle.std.proofs.lemmas.Int.{ints}
use Rattle.om_representation.proofs.point_vectors.vector_of_point.Goals as goal

pub returns : goal.returns
returns c = search (ints, rules, c.new.ensures)
