-- A balanced end counts no more columns than there are rows, so that a verdict has no more entries than rows.
--
-- Main results: few_entries.
use Rattle.std.specs.Prelude.{ℕ, ◌≡◌, zero, suc, ◌+◌, ◌-◌, ◌<◌, ◌≤◌, List, [], ◌∷◌, length, map, nat_eq}
use Rattle.std.specs.List.{Contains, IsDistinct, AllByRecursion}
use Rattle.std.specs.Cmp.{unsigned_Decides}
use Rattle.std.proofs.Common.{arith, false, subst}
use Rattle.std.proofs.lemmas.Bool.{ne_eqb}
use Rattle.std.proofs.lemmas.Cmp.{nat_eq_equiv}
use Rattle.std.proofs.lemmas.List.{length-map}
use Rattle.std.proofs.lemmas.List.Elements.{Contains-get_or}
use Rattle.std.proofs.lemmas.Map.Keys.{IsDistinct-cons}
use Rattle.std.proofs.lemmas.Map.Made.{is_member-Decides, length-le_from_is_member}
use Rattle.om_signs.proofs.Contained.{contains_first, contains_later}
use Rattle.om_chirotope.specs.Map.{SignMap}
use Rattle.om_rows.specs.declared.column.Column.{Column}
use Rattle.om_simplex.specs.declared.count.Count.{Count}
use Rattle.om_simplex.specs.declared.outcome.Outcome.TheVariants.{Balanced}
use Rattle.om_simplex.specs.Results.{AreColumnsIncreasing, HasColumn}
use Rattle.om_simplex.specs.States.{State}
use Rattle.om_simplex.specs.Outcomes.{IsOutcome, balanced}
use Rattle.om_simplex.proofs.Counting.{tail_increasing, column_later}
use Rattle.om_simplex.proofs.Reached.{reached_sound}
use Rattle.om_certificate.specs.declared.entry.Entry.{Entry}
use Rattle.om_certificate.specs.declared.verdict.Verdict.TheVariants.{Nonrealizable}
use Rattle.om_budgets.specs.declared.budgets.Budgets.{Budgets}
use Rattle.om_decide.specs.Columns.{row_count, statement_at}
use Rattle.om_decide.specs.Verdicts.{IsVerdictOf, nonrealizable}

-- the basis numbers of counted columns of m rows
abbrev numbers_of : ℕ → List Count → List ℕ
numbers_of m cs = map (λ c. m + c.column) cs

-- they are different, since the columns increase
apart : (m j : ℕ) (cs : List Count) → ((c : Count) → Contains cs c → j < c.column)
    → AllByRecursion (λ y. nat_eq (m + j) y ≡ false) (numbers_of m cs)
apart m j [] h = tt
apart m j (c ∷ cs) h = (
  let l = h c (contains_first c cs) in ne_eqb (m + j) (m + c.column) (λ e. absurd (omega arith)),
  apart m j cs (λ d k. h d (contains_later c cs d k)),
)

distinct : (m : ℕ) (cs : List Count) → AreColumnsIncreasing cs → IsDistinct nat_eq (numbers_of m cs)
unfolding IsDistinct
distinct m [] h = tt
distinct m (c ∷ cs) h = IsDistinct-cons nat_eq (m + c.column) (numbers_of m cs)
    (apart m c.column cs (λ d k. column_later c d cs h k)) (distinct m cs (tail_increasing c cs h))

-- each stands in a list that has the number of each column
among : (m : ℕ) (cs : List Count) (basis : List ℕ) → ((c : Count) → Contains cs c → Contains basis (m + c.column))
    → (q : ℕ) → Contains (numbers_of m cs) q → Contains basis q
among m [] basis h q (k, l, e) = absurd (omega arith)
among m (c ∷ cs) basis h q (zero, l, e) = subst (Contains basis) e (h c (contains_first c cs))
among m (c ∷ cs) basis h q (suc k, l, e) = among m cs basis (λ d n. h d (contains_later c cs d n)) q (k, omega arith, e)

-- a counted column is that of a row, which has one basis number
few_counts : (columns : List Column) (m pivots : ℕ) (counts : List Count) → 1 ≤ m
    → IsOutcome columns m pivots (Balanced counts) → length counts ≤ m
few_counts columns m pivots counts low (balanced k s factor cs r b o f g t a) =
    let size = (reached_sound columns m pivots low k s r).basis_size in
    let same = is_member-Decides unsigned_Decides in
    let n = length-le_from_is_member nat_eq_equiv (numbers_of m cs) s.basis (distinct m cs a.increasing)
    (λ q h. (same s.basis q).1
    (among m cs s.basis (λ c n. let k = (a.members c).0 n in in_basis s size k.i c.column k.has) q
    ((same (numbers_of m cs) q).0 h))) in
    omega (arith, n, size, length-map cs (λ (c : Count). m + c.column))
  where
    in_basis : (s : State) → length s.basis ≡ m → (i j : ℕ) → HasColumn m s i j → Contains s.basis (m + j)
    in_basis s e i j h = let l = h.row.low in let u = h.row.high in
        subst (Contains s.basis) h.number (Contains-get_or s.basis (i - 1) 0 (omega arith))

-- the certificate of a verdict has no more entries than there are rows
pub few_entries : (m : SignMap) (b : Budgets) (es : List Entry) → IsVerdictOf m b (Nonrealizable es)
    → length es ≤ row_count m
few_entries m b es (nonrealizable counts h) =
    let n = few_counts h.columns (row_count m) b.pivots counts (omega arith) h.end in
    let e = length-map counts (λ (c : Count). let x : Entry =
    record { statement = statement_at h.statements c.column; times = c.times } in x) in
    omega (arith, n, e)
