-- Negatives, zero vectors and supports. Elements count from 1.
--
-- Reference: Björner, Las Vergnas, Sturmfels, White and Ziegler, Oriented Matroids, chapter 3.
use Rattle.std.specs.Prelude.{ℕ, ◌≡◌, List, map}
use Rattle.om_signs.specs.declared.sign.Sign.{Sign}
use Rattle.om_signs.specs.declared.sign.Sign.TheVariants.{Zero}
use Rattle.om_signs.specs.Sign.{opposite}
use Rattle.om_signs.specs.SignVec.{at_element}

-- the negative: each sign is opposite
abbrev pub negated : List Sign → List Sign
negated X = map opposite X

-- all signs are zero
abbrev pub IsZero : List Sign → Type 0
IsZero X = (e : ℕ) → at_element X e ≡ Zero

-- the support of X lies in that of Y
abbrev pub HasSupportIn : List Sign → List Sign → Type 0
HasSupportIn X Y = (e : ℕ) → at_element Y e ≡ Zero → at_element X e ≡ Zero
