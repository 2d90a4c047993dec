use Rattle.om_lines.specs.Lines.{runs}
use Rattle.om_text.proofs.PointLines.{first_there}
use Rattle.om_text.proofs.points.first_coordinate.Goals as goal

pub returns : goal.returns
returns c = first_there (runs c.args.line.now) (runs c.in_ok-word.rest.now) c.in_ok-word.word.now
    c.in_ok-coordinate_of.field-0 c.in_ok-word.ensures.words c.in_ok-coordinate_of.ensures
