-- The vectors of a list without the place of an element. Elements count from 1.
--
-- Reference: Björner, Las Vergnas, Sturmfels, White and Ziegler, Oriented Matroids, chapters 3 and 4.
use Rattle.std.specs.Prelude.{ℕ, ◌≡◌, ◌≤◌, ◌-◌, List, length}
use Rattle.std.specs.List.{All, Contains, remove}
use Rattle.om_signs.specs.declared.sign.Sign.{Sign}
use Rattle.om_signs.specs.declared.sign.Sign.TheVariants.{Zero}
use Rattle.om_signs.specs.SignVec.{at_element}

-- each vector has the place of e, and at least two places
abbrev pub HavePlace : ℕ → List (List Sign) → Type 0
HavePlace e vectors = All (λ X. (e ≤ length X) × (2 ≤ length X)) vectors

-- X is some vector of the list with the place of e dropped
abbrev pub IsDropped : ℕ → List (List Sign) → List Sign → Type 0
IsDropped e vectors X = (W : List Sign) × Contains vectors W × (remove W (e - 1) ≡ X)

-- X is some vector of the list that is zero at e, with the place of e dropped
abbrev pub IsZeroDropped : ℕ → List (List Sign) → List Sign → Type 0
IsZeroDropped e vectors X = (W : List Sign) × Contains vectors W × ((at_element W e ≡ Zero) × (remove W (e - 1) ≡ X))
