use Rattle.om_points.proofs.Sizes.{coefficient_fits}
use Rattle.om_points.proofs.form.same_way.Goals as goal

pub overflow_cast-result : goal.overflow_cast-result
overflow_cast-result c = coefficient_fits c.a.inside.x c.a.invariant.x

pub overflow_cast-result-2 : goal.overflow_cast-result-2
overflow_cast-result-2 c = coefficient_fits c.b.inside.x c.b.invariant.x

pub overflow_cast-result-3 : goal.overflow_cast-result-3
overflow_cast-result-3 c = coefficient_fits c.a.inside.y c.a.invariant.y

pub overflow_cast-result-4 : goal.overflow_cast-result-4
overflow_cast-result-4 c = coefficient_fits c.b.inside.y c.b.invariant.y
