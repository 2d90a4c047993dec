use Rattle.std.proofs.Common.{rules}
use Rattle.std.proofs.lemmas.Int.{ints}
use Rattle.om_make.proofs.drawing.unit_vectors.Goals as goal

pub returns : goal.returns
returns c = search (ints, rules, c.unit-3.ensures, c.unit-2.ensures, c.unit.ensures)
