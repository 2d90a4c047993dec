use Rattle.std.proofs.Common.{arith, ap, ◌-◌}
use Rattle.om_subsets.specs.Subsets.{choose}
use Rattle.om_chirotope.proofs.Tables.{table_whole}
use Rattle.om_chirotope.proofs.three_terms.has_relations_with_table.Goals as goal

pub whole_as_front-cocircuits : goal.whole_as_front-cocircuits
whole_as_front-cocircuits g c =
    let fits = c.requires.fits in
    let small = c.requires.small in
    let count = c.choose.ensures.value in
    let same = ap (λ m. choose m.elements (m.rank - 1)) c.map.view_is in
    (omega (arith, fits, count, same), omega (arith, small))

pub has_relations-requires : goal.has_relations-requires
has_relations-requires g c = table_whole c.args.map.now c.fill.new.table c.fill.ensures
