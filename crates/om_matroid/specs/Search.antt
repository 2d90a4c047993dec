-- The first basis that contains one set and avoids another.
use Rattle.std.specs.Prelude.{ℕ, List}
use Rattle.om_subsets.specs.Subsets.{AreApart, IsPartOf}
use Rattle.om_subsets.specs.Lists.{IsBefore}
use Rattle.om_chirotope.specs.Map.{SignMap}
use Rattle.om_chirotope.specs.ThreeTerm.{IsBasis}

-- a basis that contains one set and has no element of the other
pub record IsBasisBetween (m : SignMap) (inside outside b : List ℕ) : Type 0 where
  pub basis : IsBasis m b
  pub contains : IsPartOf inside b
  pub avoids : AreApart outside b

-- the lexicographically first basis of this kind
pub record IsFirstBetween (m : SignMap) (inside outside b : List ℕ) : Type 0 where
  pub between : IsBasisBetween m inside outside b
  pub first : (c : List ℕ) → IsBasisBetween m inside outside c → IsBefore c b → ⊥
