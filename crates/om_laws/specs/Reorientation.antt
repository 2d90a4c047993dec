-- Reorientation of a map and of a sign vector on a set of elements, and the negative of a map.
--
-- Reference: Björner, Las Vergnas, Sturmfels, White and Ziegler, Oriented Matroids, chapter 3.
use Rattle.std.specs.Prelude.{ℕ, List, [], ◌∷◌, cond, Bool}
use Rattle.om_signs.specs.declared.sign.Sign.{Sign}
use Rattle.om_signs.specs.declared.sign.Sign.TheVariants.{Minus, Plus}
use Rattle.om_signs.specs.Sign.{opposite, product}
use Rattle.om_laws.specs.Vectors.{SignVector}

-- minus on the set, and plus off it
abbrev pub turning : (ℕ → Bool) → ℕ → Sign
turning set e = cond (set e) Minus Plus

-- the product of the signs of the entries of a tuple
abbrev pub signs_product : (ℕ → Sign) → List ℕ → Sign
signs_product sigma [] = Plus
signs_product sigma (x ∷ t) = product (sigma x) (signs_product sigma t)

-- the map, negated once for each entry in the set
abbrev pub reoriented : (ℕ → Bool) → (List ℕ → Sign) → List ℕ → Sign
reoriented set chi t = product (signs_product (turning set) t) (chi t)

-- the vector with its signs on the set negated
abbrev pub turned : (ℕ → Bool) → SignVector → SignVector
turned set X e = product (turning set e) (X e)

-- the map with all values negated
abbrev pub negative : (List ℕ → Sign) → List ℕ → Sign
negative chi t = opposite (chi t)
