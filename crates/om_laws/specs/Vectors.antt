-- Sign vectors as functions from elements to signs.
--
-- Reference: Björner, Las Vergnas, Sturmfels, White and Ziegler, Oriented Matroids, chapter 3.
use Rattle.std.specs.Prelude.{ℕ, ◌≡◌, ◌⊎◌, List}
use Rattle.om_signs.specs.declared.sign.Sign.{Sign}
use Rattle.om_signs.specs.declared.sign.Sign.TheVariants.{Minus, Zero, Plus}
use Rattle.om_signs.specs.Sign.{opposite, product, first_nonzero}
use Rattle.om_laws.specs.Signs.{IsNonzero}
use Rattle.om_laws.specs.Members.{IsMember}

-- a sign for each element
abbrev pub SignVector : Type 0
SignVector = ℕ → Sign

-- zero everywhere
abbrev pub zero_vector : SignVector
zero_vector e = Zero

-- all signs negated
abbrev pub negated : SignVector → SignVector
negated x e = opposite (x e)

-- the first vector, and the second where the first is zero
abbrev pub composition : SignVector → SignVector → SignVector
composition x y e = first_nonzero (x e) (y e)

-- some product of the signs at one element is this sign
abbrev pub HasProduct : SignVector → SignVector → Sign → Type 0
HasProduct x y s = (e : ℕ) × (product (x e) (y e) ≡ s)

-- the products of the signs include a plus exactly if they include a minus
pub record Orthogonal (x y : SignVector) : Type 0 where
  pub minus : HasProduct x y Plus → HasProduct x y Minus
  pub plus : HasProduct x y Minus → HasProduct x y Plus

-- each sign of the first vector is zero or equals that of the second
abbrev pub IsConformal : SignVector → SignVector → Type 0
IsConformal x y = (e : ℕ) → IsNonzero (x e) → x e ≡ y e

-- the support lies in a list
abbrev pub IsSupportedOn : List ℕ → SignVector → Type 0
IsSupportedOn E x = (e : ℕ) → IsNonzero (x e) → IsMember e E

-- the support of the first lies in that of the second
abbrev pub HasSupportIn : SignVector → SignVector → Type 0
HasSupportIn x y = (e : ℕ) → IsNonzero (x e) → IsNonzero (y e)

-- the support isn't empty
abbrev pub HasNonzero : SignVector → Type 0
HasNonzero x = (e : ℕ) × IsNonzero (x e)

-- the first is the second or its negative
abbrev pub AreEqualUpToSign : SignVector → SignVector → Type 0
AreEqualUpToSign x y = ((e : ℕ) → x e ≡ y e) ⊎ ((e : ℕ) → x e ≡ opposite (y e))
