-- The verdict on a map, by the search for vectors and by the run of the linear program.
use Rattle.std.specs.Prelude.{ℕ, ℤ, List}
use Rattle.om_chirotope.specs.Map.{SignMap}
use Rattle.om_vectors.specs.WholeVectors.{WholeVector}
use Rattle.om_vectors.specs.declared.unfound.Unfound.{Unfound}
use Rattle.om_simplex.specs.declared.count.Count.{Count}
use Rattle.om_simplex.specs.declared.stage.Stage.{Stage}
use Rattle.om_simplex.specs.declared.outcome.Outcome.TheVariants as outcome
use Rattle.om_certificate.specs.declared.lp_end.LpEnd.TheVariants as lp_end
use Rattle.om_certificate.specs.declared.verdict.Verdict.{Verdict}
use Rattle.om_certificate.specs.declared.verdict.Verdict.TheVariants.{Realizable, Nonrealizable, Undecided, Limit}
use Rattle.om_certificate.specs.Weights.{nonzero_brackets}
use Rattle.om_points.specs.Searches.{IsFound, IsUnfound}
use Rattle.om_budgets.specs.declared.budgets.Budgets.{Budgets}
use Rattle.om_decide.specs.Columns.{entries_of, weights_on}
use Rattle.om_decide.specs.Answers.{IsEndOf}

-- the verdict on a map: the vectors that the search finds; or the multiplicities of statements by which the run ends
-- balanced; or, where the search finds none and the run isn't balanced, what the run ends with and where the search
-- ended
pub data IsVerdictOf (m : SignMap) (b : Budgets) : Verdict → Type 0 where
  realizable : (vs : List WholeVector) → IsFound b.box_size m b.steps vs → IsVerdictOf m b (Realizable vs)
  nonrealizable : (counts : List Count) (h : IsEndOf m b.pivots (outcome.Balanced counts))
      → IsVerdictOf m b (Nonrealizable (entries_of h.statements counts))
  undecided : (zs : List ℤ) (u : Unfound) → IsEndOf m b.pivots (outcome.Weights zs) → IsUnfound b.box_size m b.steps u
      → IsVerdictOf m b (Undecided (weights_on (nonzero_brackets m) zs) u)
  pivot_limit : (basis : List ℕ) (u : Unfound) → IsEndOf m b.pivots (outcome.PivotLimit basis)
      → IsUnfound b.box_size m b.steps u → IsVerdictOf m b (Limit (lp_end.Pivots b.pivots basis) u)
  width : (stage : Stage) (pivot row place : ℕ) (u : Unfound) → IsEndOf m b.pivots (outcome.Width stage pivot row place)
      → IsUnfound b.box_size m b.steps u → IsVerdictOf m b (Limit (lp_end.Width stage pivot row place) u)
