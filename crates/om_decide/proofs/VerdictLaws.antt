-- What holds of every verdict.
--
-- Main results: never_both, verdict_shown and one_verdict; limit_count and limit_rows, what a limit names; the cases
-- nonrealizable_by and undecided_by.
use Rattle.std.specs.Prelude.{ℕ, ◌≡◌, ℤ, List, [], length, All, IfOk}
use Rattle.std.proofs.Common.{arith, refl, sym, ◌∙◌, ap, subst}
use Rattle.om_chirotope.specs.Map.{SignMap}
use Rattle.om_vectors.specs.WholeVectors.{WholeVector}
use Rattle.om_vectors.specs.declared.unfound.Unfound.{Unfound}
use Rattle.om_grassmann.specs.declared.statement.Statement.{Statement}
use Rattle.om_grassmann.specs.Order.{AreAll}
use Rattle.om_rows.specs.Rows.{IsPlace}
use Rattle.om_simplex.specs.declared.count.Count.{Count}
use Rattle.om_simplex.specs.declared.outcome.Outcome.{Outcome}
use Rattle.om_simplex.specs.declared.outcome.Outcome.TheVariants as outcome
use Rattle.om_simplex.proofs.Ranges.{limit_basis}
use Rattle.om_certificate.specs.declared.lp_end.LpEnd.TheVariants as lp_end
use Rattle.om_certificate.specs.declared.verdict.Verdict.{Verdict}
use Rattle.om_certificate.specs.declared.verdict.Verdict.TheVariants.{Realizable, Nonrealizable, Undecided, Limit}
use Rattle.om_certificate.specs.Certificates.{IsCertificate}
use Rattle.om_certificate.specs.Weights.{AreWeights, nonzero_brackets}
use Rattle.om_certificate.specs.Validity.{IsValid}
use Rattle.om_certificate.specs.Verdicts.{certificate_of}
use Rattle.om_certificate.proofs.Exclusion.{certificate_excludes}
use Rattle.om_points.specs.Searches.{IsFound, IsUnfound}
use Rattle.om_points.proofs.Realizing.{found_realizes}
use Rattle.om_points.proofs.Uniqueness.{found_unique, found_or_unfound, unfound_unique}
use Rattle.om_budgets.specs.declared.budgets.Budgets.{Budgets}
use Rattle.om_decide.specs.Columns.{row_count, entries_of, weights_on}
use Rattle.om_decide.specs.Answers.{IsEndOf}
use Rattle.om_decide.specs.Verdicts.{IsVerdictOf, realizable, nonrealizable, undecided, pivot_limit, width}
use Rattle.om_decide.proofs.Outcomes.{balanced_columns, weights_columns}
use Rattle.om_decide.proofs.Certifying.{certifying}
use Rattle.om_decide.proofs.WeighingMaps.{weighing_map}
use Rattle.om_decide.proofs.Listings.{one_listing, one_end}

pub balanced_valid : (m : SignMap) (pivots : ℕ) (counts : List Count) (h : IsEndOf m pivots (outcome.Balanced counts))
    → IsCertificate m (entries_of h.statements counts)
balanced_valid m pivots counts h =
    certifying m h.statements h.columns h.are counts
    (balanced_columns m h.statements h.columns pivots counts h.are h.end)

pub weights_valid : (m : SignMap) (pivots : ℕ) (zs : List ℤ) → IsEndOf m pivots (outcome.Weights zs)
    → AreWeights m (weights_on (nonzero_brackets m) zs)
weights_valid m pivots zs h =
    weighing_map m h.statements h.columns h.are zs (weights_columns m h.statements h.columns pivots zs h.are h.end)
    h.rank

-- the search finds no vectors where the run ends balanced
pub never_both : (m : SignMap) (box steps pivots : ℕ) (vs : List WholeVector) (counts : List Count)
    → IsFound box m steps vs → IsEndOf m pivots (outcome.Balanced counts) → ⊥
never_both m box steps pivots vs counts f h =
    certificate_excludes m (entries_of h.statements counts) (balanced_valid m pivots counts h) vs
    (found_realizes box m steps vs f)

-- what a verdict hands on is valid
pub verdict_shown : (m : SignMap) (b : Budgets) (v : Verdict) → IsVerdictOf m b v → IfOk (certificate_of v) (IsValid m)
verdict_shown m b v (realizable vs f) = found_realizes b.box_size m b.steps vs f
verdict_shown m b v (nonrealizable counts h) = balanced_valid m b.pivots counts h
verdict_shown m b v (undecided zs u h n) = weights_valid m b.pivots zs h
verdict_shown m b v (pivot_limit basis u h n) = tt
verdict_shown m b v (width stage pivot row place u h n) = tt

-- ---- limits

-- the pivots of a limit are those of the budget
pub limit_count : (m : SignMap) (b : Budgets) (count : ℕ) (basis : List ℕ) (u : Unfound)
    → IsVerdictOf m b (Limit (lp_end.Pivots count basis) u) → count ≡ b.pivots
limit_count m b count basis u (pivot_limit numbers t h n) = refl

-- it has a basis number for each row
pub limit_rows : (m : SignMap) (b : Budgets) (count : ℕ) (basis : List ℕ) (u : Unfound)
    → IsVerdictOf m b (Limit (lp_end.Pivots count basis) u) → length basis ≡ row_count m
limit_rows m b count basis u (pivot_limit numbers t h n) =
    (limit_basis h.columns (row_count m) b.pivots numbers (omega arith) h.end).size

-- ---- one verdict

module _ (m : SignMap) (b : Budgets) where
  ends : (o p : Outcome) → IsEndOf m b.pivots o → IsEndOf m b.pivots p → o ≡ p
  ends = one_end m b.pivots

  searches : (u t : Unfound) → IsUnfound b.box_size m b.steps u → IsUnfound b.box_size m b.steps t → u ≡ t
  searches = unfound_unique b.box_size m b.steps

  found_only : (vs : List WholeVector) (u : Unfound) → IsFound b.box_size m b.steps vs
      → IsUnfound b.box_size m b.steps u → ⊥
  found_only = found_or_unfound b.box_size m b.steps

  same_entries : (counts others : List Count) (h : IsEndOf m b.pivots (outcome.Balanced counts))
      (g : IsEndOf m b.pivots (outcome.Balanced others))
      → Nonrealizable (entries_of h.statements counts) ≡ Nonrealizable (entries_of g.statements others)
  same_entries counts others h g =
      let e = ends (outcome.Balanced counts) (outcome.Balanced others) h g in
      let q : counts ≡ others = cc in
      ap (λ ss. Nonrealizable (entries_of ss counts)) (one_listing m h.statements g.statements h.are.all g.are.all)
      ∙ ap (λ cs. Nonrealizable (entries_of g.statements cs)) q

  apart : (o p : Outcome) → (o ≡ p → ⊥) → IsEndOf m b.pivots o → IsEndOf m b.pivots p → ⊥
  apart o p n h g = n (ends o p h g)

  -- there is one verdict on a map at most, within the same budgets
  pub one_verdict : (v w : Verdict) → IsVerdictOf m b v → IsVerdictOf m b w → v ≡ w
  one_verdict v w (realizable vs f) (realizable us g) = ap Realizable (found_unique b.box_size m b.steps vs us f g)
  one_verdict v w (realizable vs f) (nonrealizable cs g) = absurd (never_both m b.box_size b.steps b.pivots vs cs f g)
  one_verdict v w (realizable vs f) (undecided zs u g n) = absurd (found_only vs u f n)
  one_verdict v w (realizable vs f) (pivot_limit basis u g n) = absurd (found_only vs u f n)
  one_verdict v w (realizable vs f) (width s p r c u g n) = absurd (found_only vs u f n)
  one_verdict v w (nonrealizable cs h) (realizable us g) = absurd (never_both m b.box_size b.steps b.pivots us cs g h)
  one_verdict v w (nonrealizable cs h) (nonrealizable ds g) = same_entries cs ds h g
  one_verdict v w (nonrealizable cs h) (undecided zs u g n) =
      absurd (apart (outcome.Balanced cs) (outcome.Weights zs) (λ e. cc) h g)
  one_verdict v w (nonrealizable cs h) (pivot_limit basis u g n) =
      absurd (apart (outcome.Balanced cs) (outcome.PivotLimit basis) (λ e. cc) h g)
  one_verdict v w (nonrealizable cs h) (width s p r c u g n) =
      absurd (apart (outcome.Balanced cs) (outcome.Width s p r c) (λ e. cc) h g)
  one_verdict v w (undecided zs u h k) (realizable us g) = absurd (found_only us u g k)
  one_verdict v w (undecided zs u h k) (nonrealizable ds g) =
      absurd (apart (outcome.Balanced ds) (outcome.Weights zs) (λ e. cc) g h)
  one_verdict v w (undecided zs u h k) (undecided ys t g n) =
      let e = ends (outcome.Weights zs) (outcome.Weights ys) h g in
      let q : zs ≡ ys = cc in
      ap (λ x. Undecided (weights_on (nonzero_brackets m) x) u) q
      ∙ ap (λ x. Undecided (weights_on (nonzero_brackets m) ys) x) (searches u t k n)
  one_verdict v w (undecided zs u h k) (pivot_limit basis t g n) =
      absurd (apart (outcome.Weights zs) (outcome.PivotLimit basis) (λ e. cc) h g)
  one_verdict v w (undecided zs u h k) (width s p r c t g n) =
      absurd (apart (outcome.Weights zs) (outcome.Width s p r c) (λ e. cc) h g)
  one_verdict v w (pivot_limit basis u h k) (realizable us g) = absurd (found_only us u g k)
  one_verdict v w (pivot_limit basis u h k) (nonrealizable ds g) =
      absurd (apart (outcome.Balanced ds) (outcome.PivotLimit basis) (λ e. cc) g h)
  one_verdict v w (pivot_limit basis u h k) (undecided ys t g n) =
      absurd (apart (outcome.Weights ys) (outcome.PivotLimit basis) (λ e. cc) g h)
  one_verdict v w (pivot_limit basis u h k) (pivot_limit numbers t g n) =
      let e = ends (outcome.PivotLimit basis) (outcome.PivotLimit numbers) h g in
      let q : basis ≡ numbers = cc in
      ap (λ x. Limit (lp_end.Pivots b.pivots x) u) q
      ∙ ap (λ x. Limit (lp_end.Pivots b.pivots numbers) x) (searches u t k n)
  one_verdict v w (pivot_limit basis u h k) (width s p r c t g n) =
      absurd (apart (outcome.PivotLimit basis) (outcome.Width s p r c) (λ e. cc) h g)
  one_verdict v w (width s p r c u h k) (realizable us g) = absurd (found_only us u g k)
  one_verdict v w (width s p r c u h k) (nonrealizable ds g) =
      absurd (apart (outcome.Balanced ds) (outcome.Width s p r c) (λ e. cc) g h)
  one_verdict v w (width s p r c u h k) (undecided ys t g n) =
      absurd (apart (outcome.Weights ys) (outcome.Width s p r c) (λ e. cc) g h)
  one_verdict v w (width s p r c u h k) (pivot_limit numbers t g n) =
      absurd (apart (outcome.PivotLimit numbers) (outcome.Width s p r c) (λ e. cc) g h)
  one_verdict v w (width s p r c u h k) (width s' p' r' c' t g n) =
      ap limit_of (ends (outcome.Width s p r c) (outcome.Width s' p' r' c') h g)
      ∙ ap (λ x. Limit (lp_end.Width s' p' r' c') x) (searches u t k n)
    where
      -- the limit of a width, with the end of the search
      limit_of : Outcome → Verdict
      limit_of (outcome.Width a x y z) = Limit (lp_end.Width a x y z) u
      limit_of o = Limit (lp_end.Pivots 0 []) u

-- ---- the cases, as the parts of the code give them

pub counted_places : (m : SignMap) (pivots : ℕ) (ss : List Statement) (counts : List Count) → AreAll m ss
    → IsEndOf m pivots (outcome.Balanced counts) → All (λ c. IsPlace (length ss) c.column) counts
counted_places m pivots ss counts all h =
    let n = (balanced_columns m h.statements h.columns pivots counts h.are h.end).numbers in
    let e : length h.columns ≡ length ss = h.are.size ∙ ap length (one_listing m h.statements ss h.are.all all) in
    subst (λ k. All (λ c. IsPlace k c.column) counts) e n

pub nonrealizable_by : (m : SignMap) (b : Budgets) (ss : List Statement) (counts : List Count) (v : Verdict)
    → AreAll m ss → IsEndOf m b.pivots (outcome.Balanced counts) → v ≡ Nonrealizable (entries_of ss counts)
    → IsVerdictOf m b v
nonrealizable_by m b ss counts v all h e =
    subst (IsVerdictOf m b) (ap (λ x. Nonrealizable (entries_of x counts)) (one_listing m h.statements ss h.are.all all)
    ∙ sym e) (nonrealizable counts h)

pub undecided_by : (m : SignMap) (b : Budgets) (zs : List ℤ) (v : Verdict) (u : Unfound)
    → IsEndOf m b.pivots (outcome.Weights zs) → IsUnfound b.box_size m b.steps u
    → v ≡ Undecided (weights_on (nonzero_brackets m) zs) u → IsVerdictOf m b v
undecided_by m b zs v u h n e = subst (IsVerdictOf m b) (sym e) (undecided zs u h n)
