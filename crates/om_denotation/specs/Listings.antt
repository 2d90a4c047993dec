-- Lists that hold exactly the members of a family of sign vectors, and families with more than a given number of
-- members.
use Rattle.std.specs.Prelude.{ℕ, ◌≢◌, ◌<◌, List, length, All, AllPairs}
use Rattle.std.specs.List.{Contains}
use Rattle.om_signs.specs.declared.sign.Sign.{Sign}

-- the members of the list are those of the family
pub record AreAllOf (P : List Sign → Type 0) (members : List (List Sign)) : Type 0 where
  pub sound : (X : List Sign) → Contains members X → P X
  pub complete : (X : List Sign) → P X → Contains members X

-- the family has more than k different members
pub record HasMoreThan (k : ℕ) (P : List Sign → Type 0) : Type 0 where
  pub members : List (List Sign)
  pub many : k < length members
  pub distinct : AllPairs (λ X Y. X ≢ Y) members
  pub each : All P members
