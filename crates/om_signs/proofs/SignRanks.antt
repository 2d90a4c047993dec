-- The ranks of signs in their order: 0, 1 and 2 for minus, zero and plus.
use Rattle.std.proofs.Common.{refl, arith, ◌≡◌, ◌<◌}
use Rattle.om_signs.specs.declared.sign.Sign.{Sign}
use Rattle.om_signs.specs.declared.sign.Sign.TheVariants.{Minus, Zero, Plus}
use Rattle.om_signs.specs.Order.{sign_rank}

-- each rank is one of three numbers
pub sign_rank-lt : (s : Sign) → sign_rank s < 3
sign_rank-lt Minus = omega arith
sign_rank-lt Zero = omega arith
sign_rank-lt Plus = omega arith

-- the rank determines the sign
pub sign_rank-injective : (s t : Sign) → sign_rank s ≡ sign_rank t → s ≡ t
sign_rank-injective Minus Minus e = refl
sign_rank-injective Minus Zero e = absurd (omega arith)
sign_rank-injective Minus Plus e = absurd (omega arith)
sign_rank-injective Zero Minus e = absurd (omega arith)
sign_rank-injective Zero Zero e = refl
sign_rank-injective Zero Plus e = absurd (omega arith)
sign_rank-injective Plus Minus e = absurd (omega arith)
sign_rank-injective Plus Zero e = absurd (omega arith)
sign_rank-injective Plus Plus e = refl
