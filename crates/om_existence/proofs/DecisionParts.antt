-- A chirotope of rank 3 has a verdict within each budget.
--
-- Main results: decision_possible.
use Rattle.std.specs.Prelude.{◌≡◌}
use Rattle.std.proofs.Common.{inl, inr}
use Rattle.std.proofs.lemmas.Bool.{cases_eq}
use Rattle.om_chirotope.specs.Map.{SignMap}
use Rattle.om_chirotope.specs.Chirotope.{IsChirotopeWithinLimits}
use Rattle.om_vectors.specs.declared.unfound.Unfound.{Unfound}
use Rattle.om_simplex.specs.declared.outcome.Outcome.{Outcome}
use Rattle.om_simplex.specs.declared.outcome.Outcome.TheVariants as outcome
use Rattle.om_certificate.specs.declared.lp_end.LpEnd.TheVariants as lp_end
use Rattle.om_certificate.specs.declared.verdict.Verdict.{Verdict}
use Rattle.om_certificate.specs.declared.verdict.Verdict.TheVariants.{Realizable, Nonrealizable, Undecided, Limit}
use Rattle.om_certificate.specs.Weights.{nonzero_brackets}
use Rattle.om_points.specs.Searches.{IsUnfound}
use Rattle.om_budgets.specs.declared.budgets.Budgets.{Budgets}
use Rattle.om_decide.specs.Answers.{IsEndOf}
use Rattle.om_decide.specs.Columns.{entries_of, weights_on}
use Rattle.om_budgets.specs.Ranges.{AreBudgets}
use Rattle.om_decide.specs.Verdicts.{IsVerdictOf, realizable, nonrealizable, undecided, pivot_limit, width}
use Rattle.om_decide.proofs.VerdictForms.{verdict_form}
use Rattle.om_printing.specs.declared.line.Line.TheVariants as line
use Rattle.om_reply.specs.declared.answer.Answer.{Answer}
use Rattle.om_reply.specs.Answers.{says, judges}
use Rattle.om_plane.specs.Decisions.{DecisionMeans, other_rank, decided}
use Rattle.om_existence.specs.Possible.{IsPossible}
use Rattle.om_plane.proofs.DecisionLaws.{verdict_decided}
use Rattle.om_existence.proofs.ColumnParts.{end_possible}
use Rattle.om_existence.proofs.Possible.{held, then, mapped}
use Rattle.om_existence.proofs.SearchParts.{search_possible}

-- where the search finds no vectors, the end of the run gives the verdict
unfound_verdict : (m : SignMap) (b : Budgets) (u : Unfound) (o : Outcome) → IsUnfound b.box_size m b.steps u
    → IsEndOf m b.pivots o → (v : Verdict) × IsVerdictOf m b v
unfound_verdict m b u (outcome.Balanced counts) unfound end =
    (Nonrealizable (entries_of end.statements counts), nonrealizable counts end)
unfound_verdict m b u (outcome.Weights zs) unfound end =
    (Undecided (weights_on (nonzero_brackets m) zs) u, undecided zs u end unfound)
unfound_verdict m b u (outcome.PivotLimit basis) unfound end =
    (Limit (lp_end.Pivots b.pivots basis) u, pivot_limit basis u end unfound)
unfound_verdict m b u (outcome.Width stage pivot row place) unfound end =
    (Limit (lp_end.Width stage pivot row place) u, width stage pivot row place u end unfound)

verdict_possible : (b : Budgets) → AreBudgets b → (m : SignMap) → IsChirotopeWithinLimits m → m.rank ≡ 3
    → IsPossible ((v : Verdict) × IsVerdictOf m b v)
verdict_possible b lawful m s three = then (search_possible b.box_size m b.steps s.axioms three lawful.steps_low)
    (λ h. elim h [
      | inl f ↦ held (Realizable f.0, realizable f.0 f.1)
      | inr u ↦ mapped (λ o. unfound_verdict m b u.0 o.0 u.1 o.1) (end_possible m b.pivots three s.limits.high)
    ])

pub decision_possible : (b : Budgets) → AreBudgets b → (m : SignMap) → IsChirotopeWithinLimits m
    → IsPossible ((a : Answer) × DecisionMeans b m a)
decision_possible b lawful m s = elim (cases_eq m.rank 3) [
  | inr other ↦ held (says (line.RefusedNotrank3 m.rank), other_rank other)
  | inl three ↦ mapped (λ h. (
    judges m h.0,
    decided h.0
        (verdict_decided m b h.0 s.limits.low s.limits.high s.axioms h.1
        (verdict_form m s.limits.high b lawful h.0 h.1)),
  )) (verdict_possible b lawful m s three)
]
