-- The axioms of covectors, for a finite set of sign vectors.
--
-- Reference: Björner, Las Vergnas, Sturmfels, White and Ziegler, Oriented Matroids, chapter 4.
use Rattle.std.specs.Prelude.{ℕ, ◌≤◌, List}
use Rattle.std.specs.List.{Contains}
use Rattle.om_signs.specs.declared.sign.Sign.{Sign}
use Rattle.om_signs.specs.SignVec.{compose}
use Rattle.om_members.specs.Listings.{IsSymmetric}
use Rattle.om_members.specs.Vectors.{IsZero}
use Rattle.om_covectors.specs.Vectors.{IsSeparatedAt, EliminatesFromComposition}

-- the zero vector is a member
abbrev pub HasZero : List (List Sign) → Type 0
HasZero members = (X : List Sign) × Contains members X × IsZero X

-- the composition of two members, in either order, is a member
abbrev pub HasCompositions : List (List Sign) → Type 0
HasCompositions members = (X Y : List Sign) → Contains members X → Contains members Y → Contains members (compose X Y)

-- some member eliminates e from the composition of X and Y
abbrev pub HasCovectorEliminator : List (List Sign) → List Sign → List Sign → ℕ → Type 0
HasCovectorEliminator members X Y e = (Z : List Sign) × Contains members Z × EliminatesFromComposition X Y e Z

-- elimination: for two members, at each element of their separation
abbrev pub HasCovectorElimination : List (List Sign) → Type 0
HasCovectorElimination members = (X Y : List Sign) → Contains members X → Contains members Y → (e : ℕ) → 1 ≤ e
    → IsSeparatedAt X Y e → HasCovectorEliminator members X Y e

-- the four axioms
pub record MeetsCovectorAxioms (members : List (List Sign)) : Type 0 where
  pub zero : HasZero members
  pub symmetric : IsSymmetric members
  pub compositions : HasCompositions members
  pub elimination : HasCovectorElimination members
