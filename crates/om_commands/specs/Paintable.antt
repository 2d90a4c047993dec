-- Colourings that can be painted. No part of the meaning.
use Rattle.std.specs.Prelude.{ℕ, ◌≡◌, ◌≤◌}
use Rattle.om_laws.specs.Colours.{IsColoured}
use Rattle.om_paint.specs.Paintings.{colouring}
use Rattle.om_words.specs.declared.colouring.Colouring.{Colouring}
use Rattle.om_commands.specs.Paintings.{given_colours}

-- there are n colours, one for each element, and the given element is one of these and is red or green
pub record IsPaintable (c : Colouring) (n : ℕ) : Type 0 where
  pub count : c.count ≡ n
  pub within : c.e ≤ n
  pub coloured : IsColoured (colouring (given_colours c) c.e)
