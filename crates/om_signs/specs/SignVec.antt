use Rattle.std.specs.Prelude.{ℕ, ◌≡◌, ◌≢◌, ◌+◌, ◌-◌, ◌<◌, ◌^◌, ◌↔◌, List, [], ◌∷◌, cond, nat_eq}
use Rattle.std.specs.Int.{bit_at}
use Rattle.std.proofs.Math.ListN.{get_or}
use Rattle.om_signs.specs.declared.sign.Sign.{Sign}
use Rattle.om_signs.specs.declared.sign.Sign.TheVariants.{Minus, Zero, Plus}
use Rattle.om_signs.specs.Sign.{opposite, product, first_nonzero}

-- the sign at a place, counted from 0
abbrev pub at : List Sign → ℕ → Sign
at xs i = get_or xs i Zero

-- the sign at element e, counted from 1
abbrev pub at_element : List Sign → ℕ → Sign
at_element xs e = at xs (e - 1)

-- the composition: the sign of the first vector, and that of the second where the first is zero
abbrev pub compose : List Sign → List Sign → List Sign
compose [] ys = ys
compose (x ∷ xs) [] = x ∷ xs
compose (x ∷ xs) (y ∷ ys) = first_nonzero x y ∷ compose xs ys

-- some product of the signs at one place is this sign
abbrev pub HasProduct : List Sign → List Sign → Sign → Type 0
HasProduct xs ys s = (i : ℕ) × (product (at xs i) (at ys i) ≡ s)

-- orthogonal: the products of the signs include a plus exactly if they include a minus
abbrev pub IsOrthogonal : List Sign → List Sign → Type 0
IsOrthogonal xs ys = HasProduct xs ys Plus ↔ HasProduct xs ys Minus

-- the first vector conforms to the second: each of its signs is zero or equals that of the second vector
abbrev pub IsConformal : List Sign → List Sign → Type 0
IsConformal xs ys = (i : ℕ) → at xs i ≢ Zero → at xs i ≡ at ys i

-- a place of the support
abbrev pub IsInSupport : List Sign → ℕ → Type 0
IsInSupport xs i = at xs i ≢ Zero

-- a place of the separation: the signs are opposite, and neither is zero
abbrev pub IsSeparated : List Sign → List Sign → ℕ → Type 0
IsSeparated xs ys i = product (at xs i) (at ys i) ≡ Minus

-- the supports have no place in common
abbrev pub HasDisjointSupport : List Sign → List Sign → Type 0
HasDisjointSupport xs ys = (i : ℕ) → IsInSupport xs i → IsInSupport ys i → ⊥

-- a mask of n bits whose bit i is 1 exactly if P holds at i
pub record IsMaskOf (n : ℕ) (P : ℕ → Type 0) (mask : ℕ) : Type 0 where
  pub within : mask < 2 ^ n
  pub holds : (i : ℕ) → i < n → (bit_at mask i ≡ 1) ↔ P i

-- the signs from place i on, with those of a mask negated
abbrev pub flip_from : ℕ → ℕ → List Sign → List Sign
flip_from i mask [] = []
flip_from i mask (x ∷ xs) = cond (nat_eq (bit_at mask i) 1) (opposite x) x ∷ flip_from (i + 1) mask xs

-- the reorientation: the signs at the elements of a mask are negated
abbrev pub flip : ℕ → List Sign → List Sign
flip = flip_from 0

-- a plus at a place
abbrev pub IsPlus : List Sign → ℕ → Type 0
IsPlus xs i = at xs i ≡ Plus

-- a minus at a place
abbrev pub IsMinus : List Sign → ℕ → Type 0
IsMinus xs i = at xs i ≡ Minus
