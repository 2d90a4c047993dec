-- Elimination of an element from the composition of two covectors.
--
-- Reference: Björner, Las Vergnas, Sturmfels, White and Ziegler, Oriented Matroids, chapter 4.
use Rattle.std.specs.Prelude.{ℕ, ◌≡◌, List, length}
use Rattle.om_signs.specs.declared.sign.Sign.{Sign}
use Rattle.om_covectors.specs.Vectors.{EliminatesFromComposition}

-- some list of n signs of the family is zero at e, and equals the composition of X and Y outside their separation
abbrev pub HasEliminator : ℕ → (List Sign → Type 0) → List Sign → List Sign → ℕ → Type 0
HasEliminator n P X Y e = (Z : List Sign) × (length Z ≡ n) × P Z × EliminatesFromComposition X Y e Z
