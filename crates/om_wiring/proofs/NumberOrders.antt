-- The sign of the order of two numbers.
--
-- Main results: orders_balanced
-- Reference: Björner, Las Vergnas, Sturmfels, White and Ziegler, Oriented Matroids, chapters 3 and 6.
use Rattle.std.specs.Prelude.{ℕ}
use Rattle.std.proofs.Common.{arith}
use Rattle.om_signs.specs.declared.sign.Sign.{Sign}
use Rattle.om_signs.specs.declared.sign.Sign.TheVariants.{Minus, Zero, Plus}
use Rattle.om_signs.specs.Sign.{opposite, product}
use Rattle.om_laws.specs.Tuples.{order_sign}
use Rattle.om_laws.specs.ThreeTerm.{AreBalanced}

-- ---- the sign of two numbers

-- the signs of three numbers
three_orders : (x y z : ℕ) → AreBalanced (order_sign x y) (opposite (order_sign x z)) (order_sign y z)
three_orders x y z = grind arith

four_signs : (tu tv tw uv uw vw : Sign) → AreBalanced tu (opposite tv) uv → AreBalanced tu (opposite tw) uw
    → AreBalanced tv (opposite tw) vw → AreBalanced uv (opposite uw) vw
    → AreBalanced (product tu vw) (opposite (product tv uw)) (product tw uv)
four_signs Minus tv tw uv uw Minus a b c d = grind (arith, a, b, c, d)
four_signs Minus tv tw uv uw Zero a b c d = grind (arith, a, b, c, d)
four_signs Minus tv tw uv uw Plus a b c d = grind (arith, a, b, c, d)
four_signs Zero tv tw uv uw Minus a b c d = grind (arith, a, b, c, d)
four_signs Zero tv tw uv uw Zero a b c d = grind (arith, a, b, c, d)
four_signs Zero tv tw uv uw Plus a b c d = grind (arith, a, b, c, d)
four_signs Plus tv tw uv uw Minus a b c d = grind (arith, a, b, c, d)
four_signs Plus tv tw uv uw Zero a b c d = grind (arith, a, b, c, d)
four_signs Plus tv tw uv uw Plus a b c d = grind (arith, a, b, c, d)

-- the signs of four numbers
pub orders_balanced : (t u v w : ℕ)
    → AreBalanced (product (order_sign t u) (order_sign v w)) (opposite (product (order_sign t v) (order_sign u w)))
    (product (order_sign t w) (order_sign u v))
orders_balanced t u v w = four_signs (order_sign t u) (order_sign t v) (order_sign t w) (order_sign u v)
    (order_sign u w) (order_sign v w) (three_orders t u v) (three_orders t u w) (three_orders t v w)
    (three_orders u v w)
