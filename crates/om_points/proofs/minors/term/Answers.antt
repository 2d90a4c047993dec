use mir.Syntax.{w64}
use Rattle.std.proofs.Common.{refl}
use Rattle.std.proofs.lemmas.Int.{to_z-of_z}
use Rattle.om_points.proofs.Sizes.{read_coefficient, read_short, term_fits, term_size}
use Rattle.om_points.proofs.minors.term.Goals as goal

pub overflow_mul-result : goal.overflow_mul-result
overflow_mul-result c =
    let r = c.requires in
    rw (read_coefficient c.args.a c.args.a r.a refl, read_short c.args.x r.x) (term_fits c.args.a c.args.x r.a r.x)

pub returns-clause-value : goal.returns-clause-value
returns-clause-value c =
    let r = c.requires in
    rw (read_coefficient c.args.a c.args.a r.a refl, read_short c.args.x r.x)
    (to_z-of_z w64 _ (term_fits c.args.a c.args.x r.a r.x))

pub returns-clause-size : goal.returns-clause-size
returns-clause-size c =
    let r = c.requires in
    rw (returns-clause-value c) (term_size c.args.a c.args.x r.a r.x)
