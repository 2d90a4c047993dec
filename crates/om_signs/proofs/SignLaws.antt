-- The algebra of signs: the one home of its laws. Those on the cases of a sign, and on the first nonzero one of two
-- signs, stand in files of their own and are cited from here.
--
-- Main results: the laws of products, gathered in the ruleset `products`; a sign that is its own opposite is zero
-- (own_opposite); two nonzero signs are equal or opposite (equal_or_opposite).
use Rattle.std.proofs.Common.{refl, arith, inl, inr, ap, ◌≡◌, ◌≢◌, ◌⊎◌, ◌∙◌}
use Rattle.om_signs.specs.declared.sign.Sign.{Sign}
use Rattle.om_signs.specs.declared.sign.Sign.TheVariants.{Minus, Zero, Plus}
use Rattle.om_signs.specs.Sign.{opposite, product}
pub use Rattle.om_signs.proofs.SignCases.{plus_nonzero, minus_nonzero, zero_not_plus, zero_not_minus, plus_not_minus}
pub use Rattle.om_signs.proofs.SignCases.{minus_not_plus, zero_or_nonzero, zero_if_neither, zero_not_nonzero}
pub use Rattle.om_signs.proofs.SignCases.{same_or_different, minus_or_not, not_zero_and_minus, not_plus_and_minus}
pub use Rattle.om_signs.proofs.SignCases.{plus_or_minus}
pub use Rattle.om_signs.proofs.FirstNonzero.{first_nonzero-zero, first_nonzero_right, first_nonzero_left}
pub use Rattle.om_signs.proofs.FirstNonzero.{first_nonzero_from_left, first_nonzero_from_right, nonzero_either}
pub use Rattle.om_signs.proofs.FirstNonzero.{first_nonzero_cases, first_nonzero_zero, first_of_two}
pub use Rattle.om_signs.proofs.FirstNonzero.{first_nonzero_either, product-first_nonzero}

-- the two factors of a product may be exchanged
pub product_comm : (s t : Sign) → product s t ≡ product t s
product_comm s t = grind arith

-- a product of three signs may be bracketed on the left or on the right
pub product_assoc : (s t u : Sign) → product (product s t) u ≡ product s (product t u)
product_assoc s t u = grind arith

-- the first two of three factors may be exchanged
pub product_left_comm : (s t u : Sign) → product s (product t u) ≡ product t (product s u)
product_left_comm s t u = grind arith

-- the opposite of a left factor makes the product opposite
pub product-opposite_left : (s t : Sign) → product (opposite s) t ≡ opposite (product s t)
product-opposite_left s t = grind arith

-- the opposite of a right factor makes the product opposite
pub product-opposite_right : (s t : Sign) → product s (opposite t) ≡ opposite (product s t)
product-opposite_right s t = grind arith

-- the opposite of the opposite is the sign itself
pub opposite-opposite : (s : Sign) → opposite (opposite s) ≡ s
opposite-opposite s = grind arith

-- a product with zero on the right is zero
pub product-zero : (s : Sign) → product s Zero ≡ Zero
product-zero s = grind arith

-- a product with plus on the right is its left factor
pub product-plus : (s : Sign) → product s Plus ≡ s
product-plus s = grind arith

pub ruleset products = (
  product_comm,
  product_assoc,
  product_left_comm,
  product-opposite_left,
  product-opposite_right,
  opposite-opposite,
  product-zero,
  product-plus,
)

-- if the left factor is plus, a product is its right factor
pub product_plus_left : (s t : Sign) → s ≡ Plus → product s t ≡ t
product_plus_left s t e = grind arith

-- in a product of two products the two inner factors may be exchanged
pub product_middle_exchange : (s t u v : Sign) → product (product s t) (product u v) ≡ product (product s u)
    (product t v)
product_middle_exchange s t u v = simp products

-- if the left factor is zero, so is the product
pub product_zero_left : (s t : Sign) → s ≡ Zero → product s t ≡ Zero
product_zero_left s t e = grind arith

-- if the right factor is zero, so is the product
pub product_zero_right : (s t : Sign) → t ≡ Zero → product s t ≡ Zero
product_zero_right s t e = grind arith

-- two products that are zero, the first by its left factor and the second by its right one
pub products_zero : (s s' t t' : Sign) → s ≡ Zero → t' ≡ Zero → product s t ≡ product s' t'
products_zero s s' t t' e f = grind arith

-- the opposite of a nonzero sign is nonzero
pub opposite_nonzero : (t : Sign) → t ≢ Zero → opposite t ≢ Zero
opposite_nonzero t n = grind arith

-- if a product is a nonzero sign, its left factor is nonzero
pub left_nonzero : (s t u : Sign) → product s t ≡ u → u ≢ Zero → s ≢ Zero
left_nonzero s t u e n = grind arith

-- if a sign is zero, so is its opposite
pub opposite_zero : (s : Sign) → s ≡ Zero → opposite s ≡ Zero
opposite_zero s e = grind arith

-- if the opposite of a sign is zero, so is the sign
pub zero_from_opposite : (s : Sign) → opposite s ≡ Zero → s ≡ Zero
zero_from_opposite s e = grind arith

-- if s is the opposite of t, and t is zero, s is zero
pub zero_if_opposite : (s t : Sign) → s ≡ opposite t → t ≡ Zero → s ≡ Zero
zero_if_opposite s t e z = grind arith

-- a sign that is its own opposite is zero
pub own_opposite : (s : Sign) → s ≡ opposite s → s ≡ Zero
own_opposite s e = grind arith

-- if the opposite of a sign is nonzero, so is the sign
pub nonzero_from_opposite : (t : Sign) → opposite t ≢ Zero → t ≢ Zero
nonzero_from_opposite t n = grind arith

-- the product of two nonzero signs is nonzero
pub product_nonzero : (s t : Sign) → s ≢ Zero → t ≢ Zero → product s t ≢ Zero
product_nonzero s t m n = grind arith

-- if a product is a nonzero sign, its right factor is nonzero
pub right_nonzero : (s t u : Sign) → product s t ≡ u → u ≢ Zero → t ≢ Zero
right_nonzero s t u e n = grind arith

-- two nonzero signs are equal or opposite
pub equal_or_opposite : (s t : Sign) → s ≢ Zero → t ≢ Zero → (s ≡ t) ⊎ (s ≡ opposite t)
equal_or_opposite Minus Minus m n = inl refl
equal_or_opposite Minus Zero m n = absurd (n refl)
equal_or_opposite Minus Plus m n = inr refl
equal_or_opposite Zero t m n = absurd (m refl)
equal_or_opposite Plus Minus m n = inr refl
equal_or_opposite Plus Zero m n = absurd (n refl)
equal_or_opposite Plus Plus m n = inl refl

-- to tell two cases apart: a sign is the opposite of another, or it isn't
pub opposite_or_not : (s t : Sign) → (s ≡ opposite t) ⊎ (s ≡ opposite t → ⊥)
opposite_or_not s t = same_or_different s (opposite t)

-- a nonzero sign isn't its own opposite
pub not_own_opposite : (t : Sign) → t ≢ Zero → t ≡ opposite t → ⊥
not_own_opposite t n e = grind arith

-- a sign that is its own opposite isn't minus
pub own_opposite_not_minus : (s : Sign) → s ≡ opposite s → s ≢ Minus
own_opposite_not_minus s e m = grind arith

-- if s is the opposite of t, and t is plus, s is minus
pub minus_if_opposite_plus : (s t : Sign) → s ≡ opposite t → t ≡ Plus → s ≡ Minus
minus_if_opposite_plus s t e p = grind arith

-- if s is the opposite of t, and t the opposite of u, s equals u
pub equal_if_twice_opposite : (s t u : Sign) → s ≡ opposite t → t ≡ opposite u → s ≡ u
equal_if_twice_opposite s t u e f = grind arith

-- if s is the opposite of t, and t is nonzero, s is nonzero
pub nonzero_if_opposite : (s t : Sign) → s ≡ opposite t → t ≢ Zero → s ≢ Zero
nonzero_if_opposite s t e n = grind arith

-- if s is the opposite of t, and s is nonzero, t is nonzero
pub nonzero_of_opposite : (s t : Sign) → s ≡ opposite t → s ≢ Zero → t ≢ Zero
nonzero_of_opposite s t e n = grind arith

-- no sign is both equal and opposite to a nonzero one
pub equal_not_opposite : (s t : Sign) → s ≡ t → s ≡ opposite t → t ≢ Zero → ⊥
equal_not_opposite s t a b n = grind arith

-- if s is the opposite of t, then t is the opposite of s
pub opposite_swap : (s t : Sign) → s ≡ opposite t → t ≡ opposite s
opposite_swap s t e = grind arith

-- if the opposite of s is t, then s is the opposite of t
pub opposite_back : (s t : Sign) → opposite s ≡ t → s ≡ opposite t
opposite_back s t e = grind arith

-- if a product isn't zero, its left factor isn't
pub left_factor_nonzero : (s t : Sign) → product s t ≢ Zero → s ≢ Zero
left_factor_nonzero s t n = grind arith

-- if a product isn't zero, its right factor isn't
pub right_factor_nonzero : (s t : Sign) → product s t ≢ Zero → t ≢ Zero
right_factor_nonzero s t n = grind arith

-- if a product is zero and its left factor isn't, its right factor is zero
pub right_factor_zero : (s t : Sign) → s ≢ Zero → product s t ≡ Zero → t ≡ Zero
right_factor_zero s t n e = grind arith

-- products with equal factors are equal
pub product-same : {s t u v : Sign} → s ≡ u → t ≡ v → product s t ≡ product u v
product-same {s} {t} {u} {v} e f = ap (λ k. product k t) e ∙ ap (product u) f

-- a factor is exchanged for its opposite, on the left, on the right, and on both sides
pub product_turned_left : (s s' t : Sign) → s' ≡ opposite s → product s' t ≡ opposite (product s t)
product_turned_left s s' t e = grind arith

-- with the opposite of t in place of t on the right, a product becomes opposite
pub product_turned_right : (s t t' : Sign) → t' ≡ opposite t → product s t' ≡ opposite (product s t)
product_turned_right s t t' e = grind arith

-- the same, with the factors of the old product exchanged
pub product_turned_comm : (s t t' : Sign) → t' ≡ opposite t → product s t' ≡ opposite (product t s)
product_turned_comm s t t' e = grind arith

-- with the opposites of both factors a product stays the same
pub product_turned_both : (s s' t t' : Sign) → s' ≡ opposite s → t' ≡ opposite t → product s' t' ≡ product s t
product_turned_both s s' t t' e f = grind arith

-- if the product with the opposite of s is u, the product with s is the opposite of u
pub product_turned_out : (s t u : Sign) → product (opposite s) t ≡ u → product s t ≡ opposite u
product_turned_out s t u e = grind arith

-- if the product with s is the opposite of u, the product with the opposite of s is u
pub product_turned_in : (s t u : Sign) → product s t ≡ opposite u → product (opposite s) t ≡ u
product_turned_in s t u e = grind arith

-- a nonzero factor that occurs twice may be left out
pub product_twice : (s t : Sign) → s ≢ Zero → product s (product s t) ≡ t
product_twice s t n = grind arith

-- the product of a nonzero sign with itself is plus
pub product_square : (s : Sign) → s ≢ Zero → product s s ≡ Plus
product_square s n = grind arith

-- a sign that is its own opposite is zero, and so is each product with it
pub square_times_own_opposite : (s t : Sign) → t ≡ opposite t → product (product s s) t ≢ Minus
square_times_own_opposite s t e m = grind arith

-- signs whose product is plus are equal
pub equal_if_product_plus : (s t : Sign) → product s t ≡ Plus → s ≡ t
equal_if_product_plus s t e = grind arith

-- signs whose product is minus are opposite
pub opposite_if_product_minus : (s t : Sign) → product s t ≡ Minus → s ≡ opposite t
opposite_if_product_minus s t e = grind arith

-- the product of opposite signs is minus, if they are nonzero
pub product_minus_if_opposite : (s t : Sign) → s ≢ Zero → s ≡ opposite t → product s t ≡ Minus
product_minus_if_opposite s t n e = grind arith

-- the product of the opposites of two signs is that of the signs
pub product_opposites : (s t : Sign) → product (opposite s) (opposite t) ≡ product s t
product_opposites s t = grind arith

-- of two zeros each is the opposite of the other
pub zeros_opposite : (s t : Sign) → s ≡ Zero → t ≡ Zero → s ≡ opposite t
zeros_opposite s t a b = grind arith
