-- The form and the limits of a verdict: a claim can carry each verdict in this form.
use Rattle.std.specs.Prelude.{ℕ, ◌+◌, ◌<◌, ◌≤◌, List, length, All, unsigned_abs}
use Rattle.om_signs.specs.declared.limits.TheConstants.{MAX_ELEMENTS, MAX_WEIGHT, MAX_PIVOTS, MAX_ROW_NAMED, MAX_PLAIN}
use Rattle.om_subsets.specs.Subsets.{choose}
use Rattle.om_vectors.specs.WholeVectors.{WholeVector, IsWithinLimit}
use Rattle.om_vectors.specs.declared.unfound.Unfound.{Unfound}
use Rattle.om_vectors.specs.declared.unfound.Unfound.TheVariants.{Exhausted, Frontier}
use Rattle.om_grassmann.specs.Statements.{IsElement}
use Rattle.om_certificate.specs.declared.entry.Entry.{Entry}
use Rattle.om_certificate.specs.declared.weight.Weight.{Weight}
use Rattle.om_certificate.specs.declared.lp_end.LpEnd.{LpEnd}
use Rattle.om_certificate.specs.declared.lp_end.LpEnd.TheVariants as lp_end
use Rattle.om_certificate.specs.declared.verdict.Verdict.{Verdict}
use Rattle.om_certificate.specs.declared.verdict.Verdict.TheVariants.{Realizable, Nonrealizable, Undecided, Limit}
use Rattle.om_certificate.specs.Validity.{IsMultiplicity}

-- at most as many vectors as there can be elements, each with coordinates within their limit
pub record AreVectorsInForm (vs : List WholeVector) : Type 0 where
  pub few : length vs ≤ MAX_ELEMENTS
  pub each : All IsWithinLimit vs

-- a statement of five elements and the numbers of two terms, with a multiplicity
pub record IsEntryInForm (entry : Entry) : Type 0 where
  pub a : IsElement MAX_ELEMENTS entry.statement.a
  pub b : IsElement MAX_ELEMENTS entry.statement.b
  pub c : IsElement MAX_ELEMENTS entry.statement.c
  pub d : IsElement MAX_ELEMENTS entry.statement.d
  pub e : IsElement MAX_ELEMENTS entry.statement.e
  pub small : IsElement 3 entry.statement.small
  pub big : IsElement 3 entry.statement.big
  pub times : IsMultiplicity entry.times

-- three increasing elements, with a number whose absolute value is within the limit
pub record IsWeightInForm (w : Weight) : Type 0 where
  pub a : 1 ≤ w.a
  pub a_b : w.a < w.b
  pub b_c : w.b < w.c
  pub c : w.c ≤ MAX_ELEMENTS
  pub size : unsigned_abs w.value ≤ unsigned_abs MAX_WEIGHT

-- at most as many weights as there are sets of three elements
pub record AreWeightsInForm (ws : List Weight) : Type 0 where
  pub few : length ws ≤ choose MAX_ELEMENTS 3
  pub each : All IsWeightInForm ws

-- a budget of pivots, and at least one basis number, each of at most six digits
pub record ArePivotsInForm (count : ℕ) (basis : List ℕ) : Type 0 where
  pub budget : count ≤ MAX_PIVOTS
  pub some : 1 ≤ length basis
  pub plain : All (λ b. b ≤ MAX_PLAIN) basis

-- the number of a pivot, which may be one more than the greatest number of pivots, a row and a place
pub record IsWidthInForm (pivot row place : ℕ) : Type 0 where
  pub pivot_most : pivot ≤ MAX_PIVOTS + 1
  pub row_most : row ≤ MAX_ROW_NAMED
  pub place_most : place ≤ MAX_PLAIN

-- the end of a run of the linear program
abbrev pub IsEndInForm : LpEnd → Type 0
IsEndInForm (lp_end.Pivots count basis) = ArePivotsInForm count basis
IsEndInForm (lp_end.Width stage pivot row place) = IsWidthInForm pivot row place

-- the end of a search for vectors
abbrev pub IsSearchInForm : Unfound → Type 0
IsSearchInForm Exhausted = Unit {0}
IsSearchInForm (Frontier vs) = AreVectorsInForm vs

-- a verdict in which every part has its form
abbrev pub IsVerdictInForm : Verdict → Type 0
IsVerdictInForm (Realizable vs) = AreVectorsInForm vs
IsVerdictInForm (Nonrealizable es) = All IsEntryInForm es
IsVerdictInForm (Undecided ws u) = AreWeightsInForm ws × IsSearchInForm u
IsVerdictInForm (Limit end u) = IsEndInForm end × IsSearchInForm u
