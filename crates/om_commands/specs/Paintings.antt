-- What fits a colouring of the elements at an element: a circuit or a cocircuit of the chirotope of a document.
use Rattle.std.specs.Prelude.{◌≡◌, ◌≢◌, ◌<◌, ◌≤◌, List, take}
use Rattle.om_laws.specs.Colours.{IsColoured}
use Rattle.om_chirotope.specs.Map.{SignMap}
use Rattle.om_oriented.specs.declared.colour.Colour.{Colour}
use Rattle.om_oriented.specs.declared.painted.Painted.{Painted}
use Rattle.om_oriented.specs.declared.painted.Painted.TheVariants.{Circuit, Cocircuit}
use Rattle.om_paint.specs.Paintings.{colouring, IsPaintingOf}
use Rattle.om_document.specs.declared.document.Document.{Document}
use Rattle.om_printing.specs.declared.line.Line.{Line}
use Rattle.om_printing.specs.declared.line.Line.TheVariants as line
use Rattle.om_reply.specs.declared.answer.Answer.{Answer}
use Rattle.om_words.specs.declared.colouring.Colouring.{Colouring}
use Rattle.om_reply.specs.Answers.{says}
use Rattle.om_representation.specs.AnyRank.{IsForKeptChirotope}

-- the given colours
abbrev pub given_colours : Colouring → List Colour
given_colours c = take c.count c.colours

-- the line that names the circuit or the cocircuit
abbrev pub painted_line : Painted → Line
painted_line (Circuit X) = line.Circuit X
painted_line (Cocircuit Y) = line.Cocircuit Y

-- what fits a colouring at an element of a map
pub data IsPaintingOfMap (c : Colouring) (m : SignMap) : Answer → Type 0 where
  -- the first circuit that fits, or, if none does, the first cocircuit that does
  painted : (item : Painted) → IsPaintingOf m (colouring (given_colours c)) c.e item
      → IsPaintingOfMap c m (says (painted_line item))

-- what fits a colouring at an element of a document
pub data IsPainting (c : Colouring) (d : Document) : Answer → Type 0 where
  -- the number of colours isn't the number of elements
  other_length : c.count ≢ d.elements → IsPainting c d (says (line.RefusedLength c.count))
  -- the element is above the number of elements
  outside : c.count ≡ d.elements → d.elements < c.e → IsPainting c d (says (line.RefusedPlace c.e))
  -- it is neither red nor green
  uncoloured : c.count ≡ d.elements → c.e ≤ d.elements → (IsColoured (colouring (given_colours c) c.e) → ⊥)
      → IsPainting c d (says (line.RefusedColour c.e))
  -- what fits in the chirotope of the document
  coloured : (answer : Answer) → c.count ≡ d.elements → c.e ≤ d.elements → IsColoured (colouring (given_colours c) c.e)
      → IsForKeptChirotope says (IsPaintingOfMap c) d answer → IsPainting c d answer
