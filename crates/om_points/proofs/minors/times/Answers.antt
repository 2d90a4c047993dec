use mir.Syntax.{w64}
use Rattle.std.proofs.lemmas.Int.{to_z-of_z}
use Rattle.om_points.proofs.Sizes.{read_short, pair_fits, pair_size}
use Rattle.om_points.proofs.minors.times.Goals as goal

pub overflow_mul-result : goal.overflow_mul-result
overflow_mul-result c =
    let r = c.requires in
    rw (read_short c.args.x r.x, read_short c.args.y r.y) (pair_fits c.args.x c.args.y r.x r.y)

pub returns-clause-value : goal.returns-clause-value
returns-clause-value c =
    let r = c.requires in
    rw (read_short c.args.x r.x, read_short c.args.y r.y) (to_z-of_z w64 _ (pair_fits c.args.x c.args.y r.x r.y))

pub returns-clause-size : goal.returns-clause-size
returns-clause-size c =
    let r = c.requires in
    rw (returns-clause-value c) (pair_size c.args.x c.args.y r.x r.y)
