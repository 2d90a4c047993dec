use Rattle.std.proofs.Common.{arith}
use Rattle.std.proofs.lemmas.Int.{ints}
use Rattle.om_points.proofs.form.Form.refuses.Goals as goal

pub returns : goal.returns
returns c = grind (arith, ints)
