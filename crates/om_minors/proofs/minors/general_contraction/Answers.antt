use Rattle.std.proofs.Common.{arith}
use Rattle.om_minors.proofs.BasisLaws.{basis_on, rank_low}
use Rattle.om_minors.proofs.MinorMaps.{contracted_axioms}
use Rattle.om_minors.proofs.minors.general_contraction.Goals as goal

pub overflow_sub-rank : goal.overflow_sub-rank
overflow_sub-rank c = let low = rank_low c.args.chi.now c.args.e (basis_on c.args.chi.now c.args.e c.requires.used) in
    let r = c.rank.ensures.value in omega arith

pub normal_by-requires-clause-axioms : goal.normal_by-requires-clause-axioms
normal_by-requires-clause-axioms c = rw (c.rank.ensures.value, c.elements.ensures.value)
    (contracted_axioms c.args.chi.now c.rank.ensures.lawful c.args.e c.requires.several c.requires.low c.requires.high
    (basis_on c.args.chi.now c.args.e c.requires.used))

pub normal_by-requires-clause-valid : goal.normal_by-requires-clause-valid
normal_by-requires-clause-valid c =
    let low = c.elements.ensures.low in
    let high = c.elements.ensures.high in
    let size = c.elements.ensures.value in (
      record { axioms = c.rank.ensures.lawful; limits = record { low = omega arith; high = omega arith } },
      c.requires.low,
      c.requires.high,
      rank_low c.args.chi.now c.args.e (basis_on c.args.chi.now c.args.e c.requires.used),
    )
