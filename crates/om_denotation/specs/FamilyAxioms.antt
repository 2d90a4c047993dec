-- The axioms of circuits and those of covectors, for a family of sign vectors. Elements count from 1.
--
-- Reference: Björner, Las Vergnas, Sturmfels, White and Ziegler, Oriented Matroids, chapters 3 and 4.
use Rattle.std.specs.Prelude.{ℕ, ◌≢◌, ◌≤◌, List, replicate}
use Rattle.om_signs.specs.declared.sign.Sign.{Sign}
use Rattle.om_signs.specs.declared.sign.Sign.TheVariants.{Zero}
use Rattle.om_signs.specs.SignVec.{compose}
use Rattle.om_members.specs.Vectors.{negated, HasSupportIn}
use Rattle.om_circuits.specs.Vectors.{IsOpposedAt, Eliminates}
use Rattle.om_covectors.specs.Vectors.{IsSeparatedAt, EliminatesFromComposition}
use Rattle.om_denotation.specs.Circuits.{HasNonzero, IsUpToSign}

-- The axioms of circuits, and of cocircuits. No member is zero. The negative of a member is a member. If the
-- support of one member lies in that of another, they are equal up to sign. Weak elimination holds.
pub record HasCircuitAxioms (P : List Sign → Type 0) : Type 0 where
  pub nonzero : (X : List Sign) → P X → HasNonzero X
  pub symmetric : (X : List Sign) → P X → P (negated X)
  pub incomparable : (X Y : List Sign) → P X → P Y → HasSupportIn X Y → IsUpToSign X Y
  pub elimination : (X Y : List Sign) → P X → P Y → X ≢ negated Y → (e : ℕ) → 1 ≤ e → IsOpposedAt X Y e
      → (Z : List Sign) × P Z × Eliminates X Y e Z

-- the axioms of covectors with n signs: zero, negatives, compositions and elimination
pub record HasCovectorAxioms (n : ℕ) (P : List Sign → Type 0) : Type 0 where
  pub zero : P (replicate n Zero)
  pub symmetric : (X : List Sign) → P X → P (negated X)
  pub compositions : (X Y : List Sign) → P X → P Y → P (compose X Y)
  pub elimination : (X Y : List Sign) → P X → P Y → (e : ℕ) → 1 ≤ e → IsSeparatedAt X Y e → (Z : List Sign) × P Z
      × EliminatesFromComposition X Y e Z
