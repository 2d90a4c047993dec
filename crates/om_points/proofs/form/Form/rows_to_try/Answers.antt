use Rattle.std.proofs.Common.{arith}
use Rattle.std.proofs.lemmas.Grind.{common_steps}
use Rattle.std.proofs.lemmas.Int.{ints}
use Rattle.om_points.proofs.form.Form.rows_to_try.Goals as goal

pub overflow_cast-rows : goal.overflow_cast-rows
overflow_cast-rows c = grind (arith, ints)

pub nonzero_div-rows : goal.nonzero_div-rows
nonzero_div-rows c = grind (arith, ints)

pub returns-then-rows-most : goal.returns-then-rows-most
returns-then-rows-most c = grind (arith, common_steps)
