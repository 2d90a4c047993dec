-- The turns of the walk of a search. No public clause uses these.
use Rattle.std.specs.Prelude.{ℕ, ◌≡◌, ◌≢◌, ◌-◌, ◌⊎◌, List, length}
use Rattle.om_signs.specs.declared.sign.Sign.{Sign}
use Rattle.om_vectors.specs.WholeVectors.{WholeVector}
use Rattle.om_points.specs.Candidates.{IsFirstCandidate}
use Rattle.om_points.specs.Searches.{AreLast, IsRaised}
use Rattle.om_points.specs.ShortVectors.{Agrees}
use Rattle.om_points.specs.declared.searching.Turn.{Turn}
use Rattle.om_points.specs.declared.searching.Turn.TheVariants.{Full, Last, Next}

-- The last vector has the required signs, some element has no vector yet, and v is the first candidate, for the
-- place after the vectors.
pub record IsLonger (box count : ℕ) (vs : List WholeVector) (signs : List Sign) (i : ℕ) (v : WholeVector) : Type 0 where
  pub agrees : Agrees vs signs (length vs - 1)
  pub short : length vs ≢ count
  pub place : i ≡ length vs
  pub first : IsFirstCandidate box v

-- the last vector doesn't have the required signs, and v is the next candidate for the last place that can be
-- raised
pub record IsChanged (box : ℕ) (vs : List WholeVector) (signs : List Sign) (i : ℕ) (v : WholeVector) : Type 0 where
  pub disagrees : Agrees vs signs (length vs - 1) → ⊥
  pub raised : IsRaised box vs i v

-- what comes after the placed vectors, for `count` elements
abbrev pub IsTurnOf : ℕ → ℕ → List WholeVector → List Sign → Turn → Type 0
IsTurnOf box count vs signs Full = Agrees vs signs (length vs - 1) × (length vs ≡ count)
IsTurnOf box count vs signs Last = (Agrees vs signs (length vs - 1) → ⊥) × AreLast box vs 2
IsTurnOf box count vs signs (Next next) = IsLonger box count vs signs next.place next.vector
    ⊎ IsChanged box vs signs next.place next.vector
