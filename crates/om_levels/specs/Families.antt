-- The two families of chirotopes of rank 3 of which lists are complete.
--
-- Reference: Björner, Las Vergnas, Sturmfels, White and Ziegler, Oriented Matroids, chapters 3 and 7.
use Rattle.std.specs.Prelude.{ℕ, List}
use Rattle.om_signs.specs.declared.sign.Sign.{Sign}
use Rattle.om_chirotope.specs.Map.{SignMap}
use Rattle.om_covers.specs.Classes.{IsSimpleChirotope, IsUniformChirotope}
use Rattle.om_covers.specs.Covers.{IsSimpleHalf, IsUniformHalf}
use Rattle.om_levels.specs.declared.family.Family.{Family}
use Rattle.om_levels.specs.declared.family.Family.TheVariants.{Simple, Uniform}

-- a chirotope of rank 3 on n elements that is of the family
abbrev pub IsOfFamily : Family → ℕ → SignMap → Type 0
IsOfFamily Simple n = IsSimpleChirotope n
IsOfFamily Uniform n = IsUniformChirotope n

-- the signatures of which the extensions are tried: of each one and its negative, at most one
abbrev pub IsHalfOf : Family → ℕ → List Sign → Type 0
IsHalfOf Simple n = IsSimpleHalf n
IsHalfOf Uniform n = IsUniformHalf
