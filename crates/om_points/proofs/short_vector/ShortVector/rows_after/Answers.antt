use Rattle.std.proofs.Common.{arith, sym, ◌∙◌}
use Rattle.std.proofs.lemmas.Int.{ints}
use Rattle.om_points.proofs.Codes.{read_room, room_few, room_fits}
use Rattle.om_points.proofs.short_vector.ShortVector.rows_after.Goals as goal

pub overflow_cast-result : goal.overflow_cast-result
overflow_cast-result c =
    let g = c.greatest.ensures.value in
    room_fits c.greatest.result c.y.result c.args.self.y c.greatest.ensures.size c.y.ensures.size c.y.ensures.value
    (omega (arith, ints))

pub returns-clause-value : goal.returns-clause-value
returns-clause-value c =
    let g = c.greatest.ensures.value in
    read_room c.greatest.result c.y.result c.args.self.y c.greatest.ensures.size c.y.ensures.size c.y.ensures.value
    (omega (arith, ints))
    ∙ sym g

pub returns-clause-few : goal.returns-clause-few
returns-clause-few c =
    let g = c.greatest.ensures.value in
    room_few c.greatest.result c.y.result c.args.self.y c.greatest.ensures.size c.y.ensures.size c.y.ensures.value
    (omega (arith, ints))
