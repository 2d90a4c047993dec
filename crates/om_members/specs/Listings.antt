-- Finite sets of sign vectors, given as lists.
use Rattle.std.specs.Prelude.{ℕ, ◌≡◌, ◌≢◌, List, length}
use Rattle.std.specs.List.{All, AllPairs, Contains}
use Rattle.om_signs.specs.declared.sign.Sign.{Sign}
use Rattle.om_members.specs.Vectors.{negated}

-- the number of elements, and the members in the order of the list
pub record Listing : Type 0 where
  pub elements : ℕ
  pub members : List (List Sign)

-- each member has n signs
abbrev pub HaveLength : ℕ → List (List Sign) → Type 0
HaveLength n members = All (λ X. length X ≡ n) members

-- no member occurs twice
abbrev pub AreDistinct : List (List Sign) → Type 0
AreDistinct members = AllPairs (λ X Y. X ≢ Y) members

-- the negative of a member is a member
abbrev pub IsSymmetric : List (List Sign) → Type 0
IsSymmetric members = (X : List Sign) → Contains members X → Contains members (negated X)
