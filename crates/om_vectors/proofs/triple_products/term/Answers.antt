use Rattle.std.proofs.lemmas.Int.{to_z-of_z}
use mir.Syntax.{w128}
use Rattle.om_vectors.proofs.Sizes.{read_wide, read_pair, minor_size, minor_fits, term_size, term_fits}
use Rattle.om_vectors.proofs.triple_products.term.Goals as goal

pub overflow_sub-result : goal.overflow_sub-result
overflow_sub-result c =
    let r = c.requires in
    rw (read_pair c.args.a c.args.d r.a r.d, read_pair c.args.b c.args.c r.b r.c)
    (minor_fits c.args.a c.args.d c.args.b c.args.c r.a r.d r.b r.c)

pub overflow_mul-result-3 : goal.overflow_mul-result-3
overflow_mul-result-3 c =
    let r = c.requires in
    let fits = minor_fits c.args.a c.args.d c.args.b c.args.c r.a r.d r.b r.c in
    let size = minor_size c.args.a c.args.d c.args.b c.args.c r.a r.d r.b r.c in
    rw (
      read_pair c.args.a c.args.d r.a r.d,
      read_pair c.args.b c.args.c r.b r.c,
      to_z-of_z w128 _ fits,
      read_wide c.args.x r.x,
    ) (term_fits c.args.x _ r.x size)

pub returns-clause-value : goal.returns-clause-value
returns-clause-value c =
    let r = c.requires in
    let fits = minor_fits c.args.a c.args.d c.args.b c.args.c r.a r.d r.b r.c in
    let size = minor_size c.args.a c.args.d c.args.b c.args.c r.a r.d r.b r.c in
    rw (
      read_pair c.args.a c.args.d r.a r.d,
      read_pair c.args.b c.args.c r.b r.c,
      to_z-of_z w128 _ fits,
      read_wide c.args.x r.x,
    ) (to_z-of_z w128 _ (term_fits c.args.x _ r.x size))

pub returns-clause-size : goal.returns-clause-size
returns-clause-size c =
    let r = c.requires in
    rw (returns-clause-value c)
    (term_size c.args.x _ r.x (minor_size c.args.a c.args.d c.args.b c.args.c r.a r.d r.b r.c))
