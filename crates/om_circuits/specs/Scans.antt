-- Definitions for scans of a list of members. Places in a list count from 0 here.
use Rattle.std.specs.Prelude.{ℕ, ◌≡◌, ◌≢◌, ◌+◌, ◌≤◌, ◌<◌, ◌⊎◌, List, length}
use Rattle.std.specs.Int.{bit_at}
use Rattle.std.specs.List.{Contains}
use Rattle.om_signs.specs.declared.sign.Sign.{Sign}
use Rattle.om_signs.specs.SignVec.{IsPlus, IsMinus}
use Rattle.om_members.specs.Scans.{nth, AllBelow, IsFirstBadPair}
use Rattle.om_members.specs.Vectors.{negated, IsZero, HasSupportIn}
use Rattle.om_circuits.specs.Vectors.{IsOpposedAt}
use Rattle.om_circuits.specs.Axioms.{HasEliminator}
use Rattle.om_circuits.specs.Instances.{IsNestedIn, HasNoEliminator}

-- the member at a place is zero
abbrev pub IsZeroAt : List (List Sign) → ℕ → Type 0
IsZeroAt members k = IsZero (nth members k)

-- the member at a place isn't zero
abbrev pub IsNotZeroAt : List (List Sign) → ℕ → Type 0
IsNotZeroAt members k = IsZeroAt members k → ⊥

-- the axiom of supports for two vectors
abbrev pub IsUnnestedIn : List Sign → List Sign → Type 0
IsUnnestedIn X Y = HasSupportIn X Y → (X ≡ Y) ⊎ (X ≡ negated Y)

-- the axiom of supports is violated by the members at two places
abbrev pub AreNestedAt : List (List Sign) → ℕ → ℕ → Type 0
AreNestedAt members i j = IsNestedIn (nth members i) (nth members j)

-- the axiom of supports for the members at two places
abbrev pub AreUnnestedAt : List (List Sign) → ℕ → ℕ → Type 0
AreUnnestedAt members i j = IsUnnestedIn (nth members i) (nth members j)

-- the axiom of elimination for two vectors and an element
abbrev pub HasEliminatorIfAsked : List (List Sign) → List Sign → List Sign → ℕ → Type 0
HasEliminatorIfAsked members X Y e = 1 ≤ e → X ≢ negated Y → IsOpposedAt X Y e → HasEliminator members X Y e

-- the places with a plus lie in the mask `plus`, and those with a minus in the mask `minus`
pub record IsWithin (plus minus : ℕ) (Z : List Sign) : Type 0 where
  pub pluses : (i : ℕ) → IsPlus Z i → bit_at plus i ≡ 1
  pub minuses : (i : ℕ) → IsMinus Z i → bit_at minus i ≡ 1

-- some member has its pluses and its minuses in these masks
abbrev pub HasWithin : List (List Sign) → ℕ → ℕ → Type 0
HasWithin members plus minus = (Z : List Sign) × Contains members Z × IsWithin plus minus Z

-- a vector, the member at place j and the element e violate the axiom of elimination
abbrev pub IsBlockedWith : List (List Sign) → List Sign → ℕ → ℕ → Type 0
IsBlockedWith members X j e = HasNoEliminator members X (nth members j) e

-- the axiom of elimination for a vector, the member at place j and the element e
abbrev pub IsUnblockedWith : List (List Sign) → List Sign → ℕ → ℕ → Type 0
IsUnblockedWith members X j e = HasEliminatorIfAsked members X (nth members j) e

-- the axiom of elimination for a vector and every member, at the elements up to n
abbrev pub IsUnblocked : List (List Sign) → ℕ → List Sign → Type 0
IsUnblocked members n X = AllBelow (length members) (λ j. AllBelow (n + 1) (IsUnblockedWith members X j))

-- the axiom of elimination for the member at place i and every member, at the elements up to n
abbrev pub IsUnblockedAt : List (List Sign) → ℕ → ℕ → Type 0
IsUnblockedAt members n i = IsUnblocked members n (nth members i)

-- the first member and element with which a vector violates the axiom of elimination
abbrev pub IsFirstBlockedWith : List (List Sign) → ℕ → List Sign → ℕ → ℕ → Type 0
IsFirstBlockedWith members n X =
    IsFirstBadPair (length members) (n + 1) (IsBlockedWith members X) (IsUnblockedWith members X)

-- the first two members and element that violate the axiom of elimination
pub record IsFirstBlocked (members : List (List Sign)) (n i j e : ℕ) : Type 0 where
  pub within : i < length members
  pub rest : IsFirstBlockedWith members n (nth members i) j e
  pub before : AllBelow i (IsUnblockedAt members n)
