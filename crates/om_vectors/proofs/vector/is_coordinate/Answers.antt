use Rattle.std.proofs.Common.{arith}
use Rattle.std.proofs.lemmas.Int.{ints}
use Rattle.om_vectors.proofs.vector.is_coordinate.Goals as goal

pub returns-then-x : goal.returns-then-x
returns-then-x c = grind (arith, ints)
