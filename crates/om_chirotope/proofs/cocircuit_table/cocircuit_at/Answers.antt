use Rattle.std.proofs.Common.{◌∙◌, []}
use Rattle.std.proofs.lemmas.List.{get_or_default}
use Rattle.om_chirotope.proofs.Tables.{vector_in_part}
use Rattle.om_chirotope.proofs.cocircuit_table.cocircuit_at.Goals as goal

pub returns-then-place-table : goal.returns-then-place-table
returns-then-place-table c =
    c.index-table-place.is ∙ get_or_default c.args.table.now c.args.place _ [] c.if-place-table.true
    ∙ vector_in_part c.args.map.now c.args.a.elements c.args.a.n c.args.place c.args.table.now c.requires.n
    c.requires.list c.requires.size c.requires.place c.if-place-table.true c.requires.filled
