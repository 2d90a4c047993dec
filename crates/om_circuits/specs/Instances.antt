-- Violated instances of the axioms of circuits, given by positions in a list of members, and their order. Positions
-- and elements count from 1.
use Rattle.std.specs.Prelude.{ℕ, ◌≢◌, ◌≤◌, List, [], ◌∷◌}
use Rattle.std.specs.List.{Contains}
use Rattle.om_signs.specs.declared.sign.Sign.{Sign}
use Rattle.om_circuits.specs.declared.set_refused.SetRefused.{SetRefused}
use Rattle.om_circuits.specs.declared.set_refused.SetRefused.TheVariants.{Zero, NoNegative, Nested, NoElimination}
use Rattle.om_members.specs.Positions.{IsPosition, member_at, IsBefore}
use Rattle.om_members.specs.Vectors.{negated, IsZero, HasSupportIn}
use Rattle.om_circuits.specs.Vectors.{IsOpposedAt}
use Rattle.om_circuits.specs.Axioms.{HasEliminator}

-- the support of X lies in that of Y, and X is neither Y nor its negative
pub record IsNestedIn (X Y : List Sign) : Type 0 where
  pub within : HasSupportIn X Y
  pub other : X ≢ Y
  pub not_negative : X ≢ negated Y

-- X and Y aren't negatives, X is plus and Y is minus at e, and no member eliminates e from them
pub record HasNoEliminator (members : List (List Sign)) (X Y : List Sign) (e : ℕ) : Type 0 where
  pub element : 1 ≤ e
  pub not_negative : X ≢ negated Y
  pub opposed : IsOpposedAt X Y e
  pub none : HasEliminator members X Y e → ⊥

-- the axiom is violated at these positions and this element
abbrev pub IsViolated : List (List Sign) → SetRefused → Type 0
IsViolated members (Zero i) = IsPosition members i × IsZero (member_at members i)
IsViolated members (NoNegative i) = IsPosition members i × (Contains members (negated (member_at members i)) → ⊥)
IsViolated members (Nested i j) = IsPosition members i × IsPosition members j
    × IsNestedIn (member_at members i) (member_at members j)
IsViolated members (NoElimination i j e) = IsPosition members i × IsPosition members j
    × HasNoEliminator members (member_at members i) (member_at members j) e

-- the number of the axiom, then the positions, then the element
abbrev pub key : SetRefused → List ℕ
key (Zero i) = 0 ∷ i ∷ []
key (NoNegative i) = 1 ∷ i ∷ []
key (Nested i j) = 2 ∷ i ∷ j ∷ []
key (NoElimination i j e) = 3 ∷ i ∷ j ∷ e ∷ []

-- a violated instance such that no earlier one is violated
pub record IsFirstViolated (members : List (List Sign)) (why : SetRefused) : Type 0 where
  pub violated : IsViolated members why
  pub first : (other : SetRefused) → IsBefore (key other) (key why) → IsViolated members other → ⊥
