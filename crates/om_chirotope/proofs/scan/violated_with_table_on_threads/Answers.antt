use Rattle.std.proofs.Common.{arith, ap, ◌-◌}
use Rattle.om_subsets.specs.Subsets.{choose}
use Rattle.om_chirotope.proofs.scan.violated_with_table_on_threads.Goals as goal

pub whole_as_front-cocircuits : goal.whole_as_front-cocircuits
whole_as_front-cocircuits g c =
    let fits = c.requires.fits in
    let small = c.requires.small in
    let count = c.choose.ensures.value in
    let same = ap (λ m. choose m.elements (m.rank - 1)) c.map.view_is in
    (omega (arith, fits, count, same), omega (arith, small))

pub returns-in-Violated-clause-none : goal.returns-in-Violated-clause-none
returns-in-Violated-clause-none g c = (
  λ e. cc,
  λ h. absurd
      (c.in-Violated.ensures.violated (h c.in-Violated.s.elements c.in-Violated.a.elements c.in-Violated.ensures.pair)),
)
