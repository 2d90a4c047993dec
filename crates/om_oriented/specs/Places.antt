-- The place of a sign vector among those of its length; for n signs there are 3^n.
use Rattle.std.specs.Prelude.{ℕ, ◌+◌, ◌*◌, ◌^◌, List, [], ◌∷◌, length}
use Rattle.om_signs.specs.declared.sign.Sign.{Sign}
use Rattle.om_signs.specs.Order.{sign_rank}

-- the signs read as a number in base 3, the first one the most significant, with minus as 0, zero as 1 and plus as
-- 2
abbrev pub base_three : List Sign → ℕ
base_three [] = 0
base_three (x ∷ xs) = sign_rank x * 3 ^ length xs + base_three xs
