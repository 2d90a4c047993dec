use Rattle.std.specs.Prelude.{ℕ, List}
use Rattle.std.specs.Cmp.Lexicographic.{slice_cmp}
use Rattle.std.specs.Ordering.{nat_cmp}
use Rattle.std.specs.declared.cmp.Ordering.{Ordering}
use Rattle.om_signs.specs.declared.sign.Sign.{Sign}
use Rattle.om_signs.specs.declared.sign.Sign.TheVariants.{Minus, Zero, Plus}

-- the number of signs that come before this one
abbrev pub sign_rank : Sign → ℕ
sign_rank Minus = 0
sign_rank Zero = 1
sign_rank Plus = 2

-- minus comes before zero, and zero before plus
abbrev pub sign_order : Sign → Sign → Ordering
sign_order s t = nat_cmp (sign_rank s) (sign_rank t)

-- the first place where the signs differ decides, and if there is none a proper prefix comes first
abbrev pub lexicographic : List Sign → List Sign → Ordering
lexicographic xs ys = slice_cmp sign_order xs ys
