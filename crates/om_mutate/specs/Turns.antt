-- Whether the sign of one triple of a map may be negated alone, by the three-term relations that contain the
-- triple.
--
-- Reference: Björner, Las Vergnas, Sturmfels, White and Ziegler, Oriented Matroids, chapter 3.
use Rattle.std.specs.Prelude.{ℕ, ◌≢◌, ◌-◌, List, [], ◌∷◌, slice_set}
use Rattle.om_signs.specs.declared.sign.Sign.{Sign}
use Rattle.om_signs.specs.Sign.{opposite, product}
use Rattle.om_signs.specs.SignVec.{at_element}
use Rattle.om_laws.specs.Sorting.{IsElement}
use Rattle.om_laws.specs.ThreeTerm.{AreBalanced}
use Rattle.om_chirotope.specs.Map.{SignMap, value_of}

-- the three-term relation of p with x, y and two others, z and w, stays balanced if the value of p, x and y is
-- negated
pub record StaysBalanced (m : SignMap) (p x y z w : ℕ) : Type 0 where
  pub signs : z ≢ x → z ≢ y → w ≢ x → w ≢ y
      → AreBalanced
      (product (opposite (value_of m (p ∷ x ∷ y ∷ []))) (value_of m (p ∷ z ∷ w ∷ [])))
      (opposite (product (value_of m (p ∷ x ∷ z ∷ [])) (value_of m (p ∷ y ∷ w ∷ []))))
      (product (value_of m (p ∷ x ∷ w ∷ [])) (value_of m (p ∷ y ∷ z ∷ [])))

-- these relations stay balanced for z and all w
abbrev pub StaysBalancedWith : SignMap → ℕ → ℕ → ℕ → ℕ → Type 0
StaysBalancedWith m p x y z = (w : ℕ) → IsElement m.elements w → StaysBalanced m p x y z w

-- these relations stay balanced for all z and w
abbrev pub StaysBalancedAt : SignMap → ℕ → ℕ → ℕ → Type 0
StaysBalancedAt m p x y = (z : ℕ) → IsElement m.elements z → StaysBalancedWith m p x y z

-- these relations stay balanced at each of three elements with the other two
pub record StaysBalancedAround (m : SignMap) (a b c : ℕ) : Type 0 where
  pub first : StaysBalancedAt m a b c
  pub second : StaysBalancedAt m b a c
  pub third : StaysBalancedAt m c a b

-- the vector with the sign at an element negated
abbrev pub turned_row : List Sign → ℕ → List Sign
turned_row row e = slice_set row (e - 1) (opposite (at_element row e))
