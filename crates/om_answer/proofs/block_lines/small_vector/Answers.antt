use Rattle.om_answer.proofs.Readings.{vector_made, narrowed}
use Rattle.om_answer.proofs.block_lines.small_vector.Goals as goal

pub returns : goal.returns
returns c =
    vector_made c.new.ensures c.requires.x c.requires.y c.requires.z
    (narrowed (record { sfits = c.coordinate.type_inv }) c.ranges.x c.coordinate.ensures)
    (narrowed (record { sfits = c.coordinate-2.type_inv }) c.ranges.y c.coordinate-2.ensures)
    (narrowed (record { sfits = c.coordinate-3.type_inv }) c.ranges.z c.coordinate-3.ensures)
