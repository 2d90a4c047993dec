-- The map that a chirotope of rank 3 and a signature make.
use Rattle.std.specs.Prelude.{ℕ, ◌+◌, List, cond}
use Rattle.om_signs.specs.declared.sign.Sign.{Sign}
use Rattle.om_subsets.specs.Subsets.{without_element}
use Rattle.om_laws.specs.Dual.{is_member}
use Rattle.om_chirotope.specs.Map.{SignMap, chi_of}
use Rattle.om_denotation.specs.Maps.{map_by}
use Rattle.om_localize.specs.Circles.{pair_sign}

-- the sign of an increasing list of 1 to n + 1: with n + 1 the one that the signature has at the other two elements,
-- and without it that of the map
abbrev pub grown_sign : SignMap → List Sign → List ℕ → Sign
grown_sign m signs xs =
    let last = m.elements + 1 in
    cond (is_member last xs) (pair_sign m.elements signs (without_element last xs)) (chi_of m xs)

-- the map on one more element with these signs
abbrev pub grown : SignMap → List Sign → SignMap
grown m signs = map_by m.rank (m.elements + 1) (grown_sign m signs)
