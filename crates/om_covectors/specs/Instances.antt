-- Violated instances of the axioms of covectors, given by positions in a list of members, and their order.
-- Positions and elements count from 1.
use Rattle.std.specs.Prelude.{ℕ, ◌≤◌, List, [], ◌∷◌}
use Rattle.std.specs.List.{Contains}
use Rattle.om_signs.specs.declared.sign.Sign.{Sign}
use Rattle.om_signs.specs.SignVec.{compose}
use Rattle.om_covectors.specs.declared.cov_refused.CovRefused.{CovRefused}
use Rattle.om_covectors.specs.declared.cov_refused.CovRefused.TheVariants.{NoZero, NoNegative, NoComposition}
use Rattle.om_covectors.specs.declared.cov_refused.CovRefused.TheVariants.{NoElimination}
use Rattle.om_members.specs.Positions.{IsPosition, member_at, IsBefore}
use Rattle.om_members.specs.Vectors.{negated}
use Rattle.om_covectors.specs.Vectors.{IsSeparatedAt}
use Rattle.om_covectors.specs.Axioms.{HasZero, HasCovectorEliminator}

-- e is in the separation of X and Y, and no member eliminates e from their composition
pub record HasNoCovectorEliminator (members : List (List Sign)) (X Y : List Sign) (e : ℕ) : Type 0 where
  pub element : 1 ≤ e
  pub separated : IsSeparatedAt X Y e
  pub none : HasCovectorEliminator members X Y e → ⊥

-- the axiom is violated at these positions and this element
abbrev pub IsViolatedCovectorAxiom : List (List Sign) → CovRefused → Type 0
IsViolatedCovectorAxiom members NoZero = HasZero members → ⊥
IsViolatedCovectorAxiom members (NoNegative i) = IsPosition members i
    × (Contains members (negated (member_at members i)) → ⊥)
IsViolatedCovectorAxiom members (NoComposition i j) = IsPosition members i × IsPosition members j
    × (Contains members (compose (member_at members i) (member_at members j)) → ⊥)
IsViolatedCovectorAxiom members (NoElimination i j e) = IsPosition members i × IsPosition members j
    × HasNoCovectorEliminator members (member_at members i) (member_at members j) e

-- the number of the axiom, then the positions, then the element
abbrev pub covector_key : CovRefused → List ℕ
covector_key NoZero = 0 ∷ []
covector_key (NoNegative i) = 1 ∷ i ∷ []
covector_key (NoComposition i j) = 2 ∷ i ∷ j ∷ []
covector_key (NoElimination i j e) = 3 ∷ i ∷ j ∷ e ∷ []

-- a violated instance such that no earlier one is violated
pub record IsFirstViolatedCovectorAxiom (members : List (List Sign)) (why : CovRefused) : Type 0 where
  pub violated : IsViolatedCovectorAxiom members why
  pub first : (other : CovRefused) → IsBefore (covector_key other) (covector_key why)
      → IsViolatedCovectorAxiom members other → ⊥
