-- Sign vectors as lists of signs, which calls return, and as functions from elements to signs, which the laws are
-- about.
use Rattle.std.specs.Prelude.{ℕ, zero, suc, List, map}
use Rattle.om_signs.specs.declared.sign.Sign.{Sign}
use Rattle.om_signs.specs.declared.sign.Sign.TheVariants.{Zero}
use Rattle.om_signs.specs.SignVec.{at}
use Rattle.om_laws.specs.Vectors.{SignVector}
use Rattle.om_laws.specs.Chirotope.{elements_to}

-- the sign at element e, counted from 1; zero at 0 and beyond the list
abbrev pub as_function : List Sign → SignVector
as_function xs zero = Zero
as_function xs (suc i) = at xs i

-- the signs at the elements 1 to n
abbrev pub as_list : ℕ → SignVector → List Sign
as_list n f = map f (elements_to n)
