use Rattle.om_commands.specs.Paintings.{painted}
use Rattle.om_commands.proofs.painting.find_painting_of.Goals as goal

pub returns : goal.returns
returns c = rw c.painted_line.ensures (painted c.paint.result c.paint.ensures)

pub paint-requires-clause-high : goal.paint-requires-clause-high
paint-requires-clause-high c = c.requires.lawful.within

pub paint-requires-clause-coloured : goal.paint-requires-clause-coloured
paint-requires-clause-coloured c = c.requires.lawful.coloured
