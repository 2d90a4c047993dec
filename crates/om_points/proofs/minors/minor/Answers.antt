use Rattle.std.proofs.Common.{◌∙◌, refl, arith}
use Rattle.std.proofs.lemmas.Int.{ints}
use Rattle.om_points.proofs.Sizes.{read_back, read_difference, difference_fits}
use Rattle.om_points.proofs.minors.minor.Goals as goal

pub overflow_sub-result : goal.overflow_sub-result
overflow_sub-result c = difference_fits c.times.result c.times-2.result c.times.ensures.size c.times-2.ensures.size

pub returns-clause-value : goal.returns-clause-value
returns-clause-value c =
    let r = c.requires in
    read_difference c.times.result c.times-2.result c.times.ensures.size c.times-2.ensures.size
    ∙ simp (
      c.times.ensures.value,
      c.times-2.ensures.value,
      read_back c.args.a c.args.a r.a refl,
      read_back c.args.b c.args.b r.b refl,
      read_back c.args.c c.args.c r.c refl,
      read_back c.args.d c.args.d r.d refl,
    )

pub returns-clause-size : goal.returns-clause-size
returns-clause-size c =
    let s = c.times.ensures.size in
    let t = c.times-2.ensures.size in
    rw (read_difference c.times.result c.times-2.result s t) (omega (arith, ints))
