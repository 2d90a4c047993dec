-- Every verdict has the form of a claim, and its evidence is within the limits of the checker.
--
-- Main results: verdict_form, verdict_within.
use Rattle.std.specs.Prelude.{ℕ, ◌≡◌, ◌+◌, ◌≤◌, ℤ, unsigned_abs, List, [], ◌∷◌, length, All, IfOk}
use Rattle.std.proofs.Common.{arith, get_or}
use Rattle.std.proofs.lemmas.List.Elements.{All-nil, All-cons, All-head, All-tail, All-map, All-weaker}
use Rattle.om_signs.specs.declared.limits.TheConstants.{MAX_ELEMENTS, MAX_MULTIPLICITY, MAX_WEIGHT, MAX_PLAIN}
use Rattle.om_chirotope.specs.Map.{SignMap}
use Rattle.om_vectors.specs.WholeVectors.{WholeVector}
use Rattle.om_subsets.specs.Subsets.{IsTriple}
use Rattle.om_subsets.proofs.Triples.{rising_of_triple}
use Rattle.om_vectors.specs.declared.unfound.Unfound.{Unfound}
use Rattle.om_vectors.specs.declared.unfound.Unfound.TheVariants.{Exhausted, Frontier}
use Rattle.om_grassmann.specs.declared.statement.Statement.{Statement}
use Rattle.om_grassmann.specs.Statements.{IsLawful}
use Rattle.om_simplex.specs.declared.count.Count.{Count}
use Rattle.om_simplex.specs.declared.stage.Stage.{Stage}
use Rattle.om_simplex.specs.declared.outcome.Outcome.TheVariants as outcome
use Rattle.om_simplex.proofs.Ranges.{balanced_small, weights_small, limit_basis, width_numbers}
use Rattle.om_certificate.specs.declared.entry.Entry.{Entry}
use Rattle.om_certificate.specs.declared.verdict.Verdict.{Verdict}
use Rattle.om_certificate.specs.Validity.{IsMultiplicity, IsWithinLimits}
use Rattle.om_certificate.specs.Verdicts.{certificate_of}
use Rattle.om_certificate.specs.Weights.{nonzero_brackets}
use Rattle.om_certificate.specs.Forms.{AreVectorsInForm, IsEntryInForm, IsWeightInForm, AreWeightsInForm}
use Rattle.om_certificate.specs.Forms.{ArePivotsInForm, IsWidthInForm, IsSearchInForm, IsVerdictInForm}
use Rattle.om_certificate.proofs.NonzeroBrackets.{bracket_triples}
use Rattle.om_points.specs.Searches.{IsFound, IsUnfound}
use Rattle.om_points.proofs.Limits.{found_few, found_within, frontier_few, frontier_within}
use Rattle.om_budgets.specs.declared.budgets.Budgets.{Budgets}
use Rattle.om_decide.specs.Columns.{row_count, statement_at, entries_of, weight_on, weights_on}
use Rattle.om_decide.specs.Answers.{IsEndOf}
use Rattle.om_budgets.specs.Ranges.{AreBudgets}
use Rattle.om_decide.specs.Verdicts.{IsVerdictOf, realizable, nonrealizable, undecided, pivot_limit, width}
use Rattle.om_decide.proofs.Outcomes.{balanced_columns, weights_columns}
use Rattle.om_decide.proofs.Certifying.{lawful_at}
use Rattle.om_decide.proofs.WeightLists.{length-weights_on}
use Rattle.om_decide.proofs.Few.{few_statements, few_rows}
use Rattle.om_decide.proofs.FewEntries.{few_entries}

-- ---- weights

weight_form : (n : ℕ) (b : List ℕ) (z : ℤ) → n ≤ MAX_ELEMENTS → IsTriple n b → unsigned_abs z ≤ unsigned_abs MAX_WEIGHT
    → IsWeightInForm (weight_on b z)
weight_form n b z l t h = three b t t.size
  where
    three : (b : List ℕ) → IsTriple n b → length b ≡ 3 → IsWeightInForm (weight_on b z)
    three [] t e = absurd (omega arith)
    three (x ∷ []) t e = absurd (omega arith)
    three (x ∷ y ∷ []) t e = absurd (omega arith)
    three (x ∷ y ∷ w ∷ v ∷ bs) t e = absurd (omega arith)
    three (x ∷ y ∷ w ∷ []) t e = let p = rising_of_triple n x y w t in let high = p.high in
        record { a = p.low; a_b = p.first; b_c = p.second; c = omega arith; size = h }

weights_form : (n : ℕ) (bs : List (List ℕ)) (zs : List ℤ) → n ≤ MAX_ELEMENTS → All (IsTriple n) bs
    → All (λ z. unsigned_abs z ≤ unsigned_abs MAX_WEIGHT) zs → All IsWeightInForm (weights_on bs zs)
weights_form n [] zs l t h = All-nil IsWeightInForm
weights_form n (b ∷ bs) [] l t h = All-nil IsWeightInForm
weights_form n (b ∷ bs) (z ∷ zs) l t h =
    All-cons IsWeightInForm (weight_on b z) (weights_on bs zs)
    (weight_form n b z l (All-head (IsTriple n) b bs t)
    (All-head (λ x. unsigned_abs x ≤ unsigned_abs MAX_WEIGHT) z zs h))
    (weights_form n bs zs l (All-tail (IsTriple n) b bs t)
    (All-tail (λ x. unsigned_abs x ≤ unsigned_abs MAX_WEIGHT) z zs h))

-- ---- the parts of a verdict

module _ (m : SignMap) (small : m.elements ≤ MAX_ELEMENTS) (b : Budgets) where
  entry_form : (st : Statement) (times : ℕ) → IsLawful m st → 1 ≤ times → times ≤ MAX_MULTIPLICITY
      → IsEntryInForm (record { statement = st; times = times })
  entry_form st times h low high =
      let p = h.placed in
      let bc = p.b_c in
      let cd = p.c_d in
      let de = p.d_e in
      let first = p.b in
      let last = p.e in
      let al = p.a.low in
      let ah = p.a.high in
      record {
        a = record { low = omega arith; high = omega arith };
        b = record { low = omega arith; high = omega arith };
        c = record { low = omega arith; high = omega arith };
        d = record { low = omega arith; high = omega arith };
        e = record { low = omega arith; high = omega arith };
        small = h.two.first;
        big = h.two.second;
        times = record { low = low; high = high };
      }

  entries_form : (counts : List Count) (h : IsEndOf m b.pivots (outcome.Balanced counts))
      → All IsEntryInForm (entries_of h.statements counts)
  entries_form counts h =
      let balancing = balanced_columns m h.statements h.columns b.pivots counts h.are h.end in
      let few = balanced_small h.columns (row_count m) b.pivots counts h.end in
      All-map IsEntryInForm (λ (c : Count). let e : Entry =
      record { statement = statement_at h.statements c.column; times = c.times } in e) counts
      (λ k d l. entry_form (statement_at h.statements (get_or counts k d).column) (get_or counts k d).times
      (lawful_at m h.statements h.columns h.are (get_or counts k d).column (balancing.numbers k d l))
      (balancing.counted k d l) (few k d l))

  weight_list_form : (zs : List ℤ) → IsEndOf m b.pivots (outcome.Weights zs)
      → AreWeightsInForm (weights_on (nonzero_brackets m) zs)
  weight_list_form zs h =
      let weighing = weights_columns m h.statements h.columns b.pivots zs h.are h.end in
      let e = weighing.size in
      let n = length-weights_on (nonzero_brackets m) zs (omega arith) in
      let f = few_rows m small in
      record {
        few = omega (arith, n);
        each = weights_form m.elements (nonzero_brackets m) zs small (bracket_triples m)
            (weights_small h.columns (row_count m) b.pivots zs (omega arith) h.end);
      }

  -- the entries and the weights are within the limits of the checker of evidence
  pub verdict_within : (v : Verdict) → IsVerdictOf m b v → IfOk (certificate_of v) IsWithinLimits
  verdict_within v (realizable vs f) = tt
  verdict_within v (nonrealizable counts h) =
      let n = few_entries m b (entries_of h.statements counts) (nonrealizable counts h) in
      let r = few_rows m small in
      record {
        few = omega (arith, n, r);
        counted = All-weaker IsEntryInForm (λ e. IsMultiplicity e.times) (λ e f. f.times)
            (entries_of h.statements counts) (entries_form counts h);
      }
  verdict_within v (undecided zs u h n) =
      let f = weight_list_form zs h in
      let few = f.few in
      record {
        few = omega arith;
        small = All-weaker IsWeightInForm (λ w. unsigned_abs w.value ≤ unsigned_abs MAX_WEIGHT) (λ w g. g.size)
            (weights_on (nonzero_brackets m) zs) f.each;
      }
  verdict_within v (pivot_limit basis u h n) = tt
  verdict_within v (width stage pivot row place u h n) = tt

module _ (m : SignMap) (small : m.elements ≤ MAX_ELEMENTS) (b : Budgets) (budgets : AreBudgets b) where
  vectors_form : (vs : List WholeVector) → IsFound b.box_size m b.steps vs → AreVectorsInForm vs
  vectors_form vs f = let n = found_few b.box_size m b.steps vs f in
      record { few = omega arith; each = found_within b.box_size m b.steps vs budgets.box_high f }

  search_form : (u : Unfound) → IsUnfound b.box_size m b.steps u → IsSearchInForm u
  search_form Exhausted h = tt
  search_form (Frontier w) h = let n = frontier_few b.box_size m b.steps w h in
      record { few = omega arith; each = frontier_within b.box_size m b.steps w budgets.box_high h }

  pivots_form : (basis : List ℕ) → IsEndOf m b.pivots (outcome.PivotLimit basis) → ArePivotsInForm b.pivots basis
  pivots_form basis h =
      let n = limit_basis h.columns (row_count m) b.pivots basis (omega arith) h.end in
      let e = n.size in
      let f = few_rows m small in
      let g = few_statements m small h.statements h.are.all in
      let s = h.are.size in
      record {
        budget = budgets.pivots_high;
        some = omega arith;
        plain = All-weaker (λ k. k ≤ row_count m + length h.columns) (λ k. k ≤ MAX_PLAIN) (λ k l. omega arith) basis
            n.most;
      }

  width_form : (stage : Stage) (pivot row place : ℕ) → IsEndOf m b.pivots (outcome.Width stage pivot row place)
      → IsWidthInForm pivot row place
  width_form stage pivot row place h =
      let n = width_numbers h.columns (row_count m) b.pivots stage pivot row place (omega arith) h.end in
      let p = n.pivot_most in
      let r = n.row_most in
      let c = n.place_most in
      let f = few_rows m small in
      let g = few_statements m small h.statements h.are.all in
      let s = h.are.size in
      let high = budgets.pivots_high in
      record { pivot_most = omega arith; row_most = omega arith; place_most = omega arith }

  -- each part of a verdict has its form, if the map and the budgets are within the limits
  pub verdict_form : (v : Verdict) → IsVerdictOf m b v → IsVerdictInForm v
  verdict_form v (realizable vs f) = vectors_form vs f
  verdict_form v (nonrealizable counts h) = entries_form m small b counts h
  verdict_form v (undecided zs u h n) = (weight_list_form m small b zs h, search_form u n)
  verdict_form v (pivot_limit basis u h n) = (pivots_form basis h, search_form u n)
  verdict_form v (width stage pivot row place u h n) = (width_form stage pivot row place h, search_form u n)
