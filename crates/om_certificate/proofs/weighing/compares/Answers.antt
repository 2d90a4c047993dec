use Rattle.std.proofs.Common.{arith}
use Rattle.std.proofs.lemmas.Int.{ints}
use Rattle.om_certificate.proofs.weighing.compares.Goals as goal

pub returns-then-strict : goal.returns-then-strict
returns-then-strict c = grind (arith, ints)
