-- The sign of the order of two numbers.
--
-- Main results: order_sign_less, order_sign_equal, order_sign_greater, order_sign_cases; order_sign_swap;
-- equal_from_order_sign, order_sign_nonzero
use Rattle.std.specs.Prelude.{ℕ, ◌≡◌, ◌≢◌, ◌<◌, ◌≤◌, ◌⊎◌, refl}
use Rattle.std.proofs.Common.{sym, ◌∙◌, arith, inl, inr}
use Rattle.std.proofs.lemmas.Bool.{cases_lt, lt-ltb, le-ltb}
use Rattle.om_signs.specs.declared.sign.Sign.TheVariants.{Minus, Zero, Plus}
use Rattle.om_signs.specs.Sign.{opposite}
use Rattle.om_signs.proofs.SignLaws.{plus_nonzero, minus_nonzero}
use Rattle.om_laws.specs.Signs.{IsNonzero}
use Rattle.om_laws.specs.Tuples.{order_sign}

-- the order sign of x and y is plus if x is below y
pub order_sign_less : (x y : ℕ) → x < y → order_sign x y ≡ Plus
order_sign_less x y l = rw (lt-ltb x y l) refl

-- the order sign of x and y is zero if they are equal
pub order_sign_equal : (x y : ℕ) → x ≡ y → order_sign x y ≡ Zero
order_sign_equal x y e =
    let g : y ≤ x = omega arith in
    let h : x ≤ y = omega arith in
    rw (le-ltb x y g, le-ltb y x h) refl

-- the order sign of x and y is minus if x is above y
pub order_sign_greater : (x y : ℕ) → y < x → order_sign x y ≡ Minus
order_sign_greater x y l = let g : y ≤ x = omega arith in rw (le-ltb x y g, lt-ltb y x l) refl

pub order_sign_cases : (x y : ℕ) → ((x < y) × (order_sign x y ≡ Plus))
    ⊎ (((x ≡ y) × (order_sign x y ≡ Zero)) ⊎ ((y < x) × (order_sign x y ≡ Minus)))
order_sign_cases x y = elim (cases_lt x y) [
  | inl l ↦ inl (l, order_sign_less x y l)
  | inr g ↦ elim (cases_lt y x) [
    | inl l ↦ inr (inr (l, order_sign_greater x y l))
    | inr h ↦ let e : x ≡ y = omega arith in inr (inl (e, order_sign_equal x y e))
  ]
]

-- the order sign of y and x is the opposite of that of x and y
pub order_sign_swap : (x y : ℕ) → order_sign y x ≡ opposite (order_sign x y)
order_sign_swap x y = grind arith

-- numbers whose order sign is zero are equal
pub equal_from_order_sign : (x y : ℕ) → order_sign x y ≡ Zero → x ≡ y
equal_from_order_sign x y e = elim (order_sign_cases x y) [
  | inl (l, f) ↦ absurd (plus_nonzero (sym f ∙ e))
  | inr (inl (q, f)) ↦ q
  | inr (inr (l, f)) ↦ absurd (minus_nonzero (sym f ∙ e))
]

-- the order sign of different numbers isn't zero
pub order_sign_nonzero : (x y : ℕ) → x ≢ y → IsNonzero (order_sign x y)
order_sign_nonzero x y n e = n (equal_from_order_sign x y e)
