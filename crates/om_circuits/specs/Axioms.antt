-- The axioms of circuits, which are also those of cocircuits, for a finite set of sign vectors.
--
-- Reference: Björner, Las Vergnas, Sturmfels, White and Ziegler, Oriented Matroids, chapter 3.
use Rattle.std.specs.Prelude.{ℕ, ◌≡◌, ◌≢◌, ◌≤◌, ◌⊎◌, List}
use Rattle.std.specs.List.{Contains}
use Rattle.om_signs.specs.declared.sign.Sign.{Sign}
use Rattle.om_members.specs.Listings.{IsSymmetric}
use Rattle.om_members.specs.Vectors.{negated, IsZero, HasSupportIn}
use Rattle.om_circuits.specs.Vectors.{IsOpposedAt, Eliminates}

-- the zero vector is no member
abbrev pub HasNoZero : List (List Sign) → Type 0
HasNoZero members = (X : List Sign) → Contains members X → IsZero X → ⊥

-- if the support of a member lies in that of another, the two are equal or negatives
abbrev pub IsIncomparable : List (List Sign) → Type 0
IsIncomparable members = (X Y : List Sign) → Contains members X → Contains members Y → HasSupportIn X Y → (X ≡ Y)
    ⊎ (X ≡ negated Y)

-- some member eliminates e from X and Y
abbrev pub HasEliminator : List (List Sign) → List Sign → List Sign → ℕ → Type 0
HasEliminator members X Y e = (Z : List Sign) × Contains members Z × Eliminates X Y e Z

-- weak elimination: for two members that aren't negatives, at each element where the first is plus and the second
-- minus
abbrev pub HasElimination : List (List Sign) → Type 0
HasElimination members = (X Y : List Sign) → Contains members X → Contains members Y → X ≢ negated Y → (e : ℕ) → 1 ≤ e
    → IsOpposedAt X Y e → HasEliminator members X Y e

-- the four axioms
pub record MeetsCircuitAxioms (members : List (List Sign)) : Type 0 where
  pub no_zero : HasNoZero members
  pub symmetric : IsSymmetric members
  pub incomparable : IsIncomparable members
  pub elimination : HasElimination members
