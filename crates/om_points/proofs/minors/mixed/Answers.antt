use Rattle.std.specs.Prelude.{◌+ℤ◌, ◌*ℤ◌}
use mir.Syntax.{w64}
use Rattle.std.proofs.lemmas.Int.{to_z-of_z}
use Rattle.om_points.proofs.Sizes.{read_minor, minors_fit, read_minors, minors_size, mixed_fits, mixed_size}
use Rattle.om_points.proofs.minors.mixed.Goals as goal

pub overflow_mul-result : goal.overflow_mul-result
overflow_mul-result c =
    let r = c.requires in
    rw (read_minor c.args.a r.a, read_minor c.args.p r.p) (minors_fit c.args.a c.args.p r.a r.p)

pub overflow_mul-result-2 : goal.overflow_mul-result-2
overflow_mul-result-2 c =
    let r = c.requires in
    rw (read_minor c.args.b r.b, read_minor c.args.q r.q) (minors_fit c.args.b c.args.q r.b r.q)

pub overflow_add-result : goal.overflow_add-result
overflow_add-result c =
    let r = c.requires in
    rw (read_minors c.args.a c.args.p r.a r.p, read_minors c.args.b c.args.q r.b r.q)
    (mixed_fits (c.args.a *ℤ c.args.p) (c.args.b *ℤ c.args.q) (minors_size c.args.a c.args.p r.a r.p)
    (minors_size c.args.b c.args.q r.b r.q))

pub returns-clause-value : goal.returns-clause-value
returns-clause-value c =
    let r = c.requires in
    rw (read_minors c.args.a c.args.p r.a r.p, read_minors c.args.b c.args.q r.b r.q)
    (to_z-of_z w64 (c.args.a *ℤ c.args.p +ℤ c.args.b *ℤ c.args.q)
    (mixed_fits (c.args.a *ℤ c.args.p) (c.args.b *ℤ c.args.q) (minors_size c.args.a c.args.p r.a r.p)
    (minors_size c.args.b c.args.q r.b r.q)))

pub returns-clause-size : goal.returns-clause-size
returns-clause-size c =
    let r = c.requires in
    rw (returns-clause-value c)
    (mixed_size (c.args.a *ℤ c.args.p) (c.args.b *ℤ c.args.q) (minors_size c.args.a c.args.p r.a r.p)
    (minors_size c.args.b c.args.q r.b r.q))
