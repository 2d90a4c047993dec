-- Lists of distinct sign vectors that are extended at their end.
use Rattle.std.specs.Prelude.{◌≡◌, ◌⊎◌, ◌≤◌, ◌↔◌, List, ◌++◌, length}
use Rattle.std.specs.List.{Contains}
use Rattle.om_signs.specs.declared.sign.Sign.{Sign}
use Rattle.om_signs.specs.declared.limits.TheConstants.{MAX_MEMBERS}
use Rattle.om_signs.specs.SignVec.{compose}
use Rattle.om_members.specs.Listings.{AreDistinct}
use Rattle.om_denotation.specs.Circuits.{HasNonzero, IsUpToSign}

-- the vectors are distinct, and there are at most as many as a list may have
pub record IsMemberSet (members : List (List Sign)) : Type 0 where
  pub distinct : AreDistinct members
  pub few : length members ≤ MAX_MEMBERS

-- two lists with the same vectors
abbrev pub HaveTheSame : List (List Sign) → List (List Sign) → Type 0
HaveTheSame xs ys = (X : List Sign) → Contains xs X ↔ Contains ys X

-- an old member, or one of the added vectors
abbrev pub IsOldOrAdded : List (List Sign) → (List Sign → Type 0) → List Sign → Type 0
IsOldOrAdded old P X = Contains old X ⊎ P X

-- the old members in their order, followed by exactly those of the added vectors that were not among them
pub record IsExtendedBy (P : List Sign → Type 0) (old new : List (List Sign)) : Type 0 where
  pub rest : List (List Sign)
  pub kept : new ≡ old ++ rest
  pub sound : (X : List Sign) → Contains new X → IsOldOrAdded old P X
  pub complete : (X : List Sign) → P X → Contains new X

-- a nonzero vector that is V or its negative
abbrev pub IsNonzeroUpToSign : List Sign → List Sign → Type 0
IsNonzeroUpToSign V X = HasNonzero X × IsUpToSign X V

-- the composition of a vector with a vector of a list
abbrev pub IsComposedWith : List Sign → List (List Sign) → List Sign → Type 0
IsComposedWith X Ys Z = (Y : List Sign) × Contains Ys Y × (Z ≡ compose X Y)
