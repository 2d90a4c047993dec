-- Definitions for scans of a list of members. Places in a list count from 0 here.
use Rattle.std.specs.Prelude.{ℕ, ◌≡◌, ◌+◌, ◌≤◌, ◌<◌, ◌↔◌, List, length}
use Rattle.std.specs.Int.{bit_at}
use Rattle.std.specs.List.{Contains}
use Rattle.om_signs.specs.declared.sign.Sign.{Sign}
use Rattle.om_signs.specs.SignVec.{compose, IsPlus, IsMinus}
use Rattle.om_members.specs.Scans.{nth, AllBelow, IsFirstBadPair}
use Rattle.om_covectors.specs.Vectors.{IsSeparatedAt}
use Rattle.om_covectors.specs.Axioms.{HasCovectorEliminator}
use Rattle.om_covectors.specs.Instances.{HasNoCovectorEliminator}

-- the composition of a vector with the member at a place is a member
abbrev pub HasCompositionWith : List (List Sign) → List Sign → ℕ → Type 0
HasCompositionWith members X j = Contains members (compose X (nth members j))

-- the composition of a vector with the member at a place is no member
abbrev pub HasNoCompositionWith : List (List Sign) → List Sign → ℕ → Type 0
HasNoCompositionWith members X j = HasCompositionWith members X j → ⊥

-- the composition of the members at two places is a member
abbrev pub HasCompositionAt : List (List Sign) → ℕ → ℕ → Type 0
HasCompositionAt members i j = HasCompositionWith members (nth members i) j

-- the composition of the members at two places is no member
abbrev pub HasNoCompositionAt : List (List Sign) → ℕ → ℕ → Type 0
HasNoCompositionAt members i j = HasNoCompositionWith members (nth members i) j

-- outside the places of the mask `free`, the places with a plus are the mask `plus`, and those with a minus are the
-- mask `minus`
pub record IsFixedOutside (free plus minus : ℕ) (Z : List Sign) : Type 0 where
  pub pluses : (i : ℕ) → (bit_at plus i ≡ 1) ↔ (IsPlus Z i × (bit_at free i ≡ 0))
  pub minuses : (i : ℕ) → (bit_at minus i ≡ 1) ↔ (IsMinus Z i × (bit_at free i ≡ 0))

-- some member has these signs outside the places of a mask
abbrev pub HasFixedOutside : List (List Sign) → ℕ → ℕ → ℕ → Type 0
HasFixedOutside members free plus minus = (Z : List Sign) × Contains members Z × IsFixedOutside free plus minus Z

-- the axiom of elimination for two vectors and an element
abbrev pub HasCovectorEliminatorIfAsked : List (List Sign) → List Sign → List Sign → ℕ → Type 0
HasCovectorEliminatorIfAsked members X Y e = 1 ≤ e → IsSeparatedAt X Y e → HasCovectorEliminator members X Y e

-- a vector, the member at place j and the element e violate the axiom of elimination
abbrev pub IsBlockedWith : List (List Sign) → List Sign → ℕ → ℕ → Type 0
IsBlockedWith members X j e = HasNoCovectorEliminator members X (nth members j) e

-- the axiom of elimination for a vector, the member at place j and the element e
abbrev pub IsUnblockedWith : List (List Sign) → List Sign → ℕ → ℕ → Type 0
IsUnblockedWith members X j e = HasCovectorEliminatorIfAsked members X (nth members j) e

-- the axiom of elimination for a vector and every member, at the elements up to n
abbrev pub IsUnblocked : List (List Sign) → ℕ → List Sign → Type 0
IsUnblocked members n X = AllBelow (length members) (λ j. AllBelow (n + 1) (IsUnblockedWith members X j))

-- the axiom of elimination for the member at place i and every member, at the elements up to n
abbrev pub IsUnblockedAt : List (List Sign) → ℕ → ℕ → Type 0
IsUnblockedAt members n i = IsUnblocked members n (nth members i)

-- the first member and element with which a vector violates the axiom of elimination
abbrev pub IsFirstBlockedWith : List (List Sign) → ℕ → List Sign → ℕ → ℕ → Type 0
IsFirstBlockedWith members n X =
    IsFirstBadPair (length members) (n + 1) (IsBlockedWith members X) (IsUnblockedWith members X)

-- the first two members and element that violate the axiom of elimination
pub record IsFirstBlocked (members : List (List Sign)) (n i j e : ℕ) : Type 0 where
  pub within : i < length members
  pub rest : IsFirstBlockedWith members n (nth members i) j e
  pub before : AllBelow i (IsUnblockedAt members n)
