-- Circuits and cocircuits that a colouring of the elements allows. Elements count from 1.
--
-- Reference: Björner, Las Vergnas, Sturmfels, White and Ziegler, Oriented Matroids, chapter 3.
use Rattle.std.specs.Prelude.{ℕ, ◌≢◌, ◌≤◌, List}
use Rattle.om_signs.specs.declared.sign.Sign.{Sign}
use Rattle.om_signs.specs.declared.sign.Sign.TheVariants.{Zero}
use Rattle.om_signs.specs.SignVec.{at_element}
use Rattle.om_laws.specs.Colours.{Colour, CircuitMay, CocircuitMay}
use Rattle.om_chirotope.specs.Map.{SignMap}
use Rattle.om_denotation.specs.Circuits.{IsCircuitOfChirotope, IsCocircuitOfChirotope}

-- a circuit through e that is nonnegative on red, nonpositive on green and zero on white
pub record IsFittingCircuit (m : SignMap) (colour : ℕ → Colour) (e : ℕ) (X : List Sign) : Type 0 where
  pub circuit : IsCircuitOfChirotope m X
  pub through : at_element X e ≢ Zero
  pub fits : (f : ℕ) → 1 ≤ f → f ≤ m.elements → CircuitMay (colour f) (at_element X f)

-- a cocircuit through e that is nonnegative on red, nonpositive on green and zero on black
pub record IsFittingCocircuit (m : SignMap) (colour : ℕ → Colour) (e : ℕ) (Y : List Sign) : Type 0 where
  pub cocircuit : IsCocircuitOfChirotope m Y
  pub through : at_element Y e ≢ Zero
  pub fits : (f : ℕ) → 1 ≤ f → f ≤ m.elements → CocircuitMay (colour f) (at_element Y f)
