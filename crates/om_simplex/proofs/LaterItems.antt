-- The coefficients of the rows, as a loop over those after the first reads them.
--
-- Main definitions: item
-- Main results: item_is, above, below, below_count
use Rattle.std.proofs.Common.{arith, ◌≡◌, ◌∙◌, ap, subst, length, get_or, take, drop, ◌+◌, ◌-◌}
use Rattle.std.specs.Prelude.{ℕ, ℤ, pos, ◌≤ℤ◌, ◌<ℤ◌, ◌<◌, List, true, false}
use lib.Signed.{lt_z}
use Rattle.std.proofs.lemmas.Int.{ints}
use Rattle.std.proofs.lemmas.List.{take_rest, length-drop}
use Rattle.std.proofs.lemmas.Grind.{get_or_after_one}
use Rattle.om_rows.specs.Rows.{IsNarrow}
use Rattle.om_rows.proofs.Casts.{stored, stored-narrow}

-- the coefficient of row k + 1, as the loop reads it
abbrev pub item : List ℤ → ℕ → ℤ
item ts k = get_or (take (length ts - 1) (drop 1 ts)) k (pos 0)

-- it is that of the row
pub item_is : (ts : List ℤ) (k : ℕ) → item ts k ≡ get_or ts (k + 1) (pos 0)
item_is ts k = ap (λ xs. get_or xs k (pos 0)) (take_rest ts 1) ∙ get_or_after_one ts k (pos 0)
    ∙ ap (λ i. get_or ts i (pos 0)) (let e : 1 + k ≡ k + 1 = omega arith in e)

-- the test, where it holds and where it fails
pub above : (ts : List ℤ) (k : ℕ) → IsNarrow (item ts k) → lt_z (pos 0) (stored (item ts k)) ≡ true
    → pos 0 <ℤ get_or ts (k + 1) (pos 0)
above ts k n h = let e = stored-narrow _ n ∙ item_is ts k in subst (λ z. pos 0 <ℤ z) e (omega (arith, ints))

pub below : (ts : List ℤ) (k : ℕ) → IsNarrow (item ts k) → lt_z (pos 0) (stored (item ts k)) ≡ false
    → get_or ts (k + 1) (pos 0) ≤ℤ pos 0
below ts k n h = let e = stored-narrow _ n ∙ item_is ts k in subst (λ z. z ≤ℤ pos 0) e (omega (arith, ints))

-- the loop is at a row
pub below_count : (ts : List ℤ) (k m : ℕ) → length ts ≡ m + 1 → k < length (take (length ts - 1) (drop 1 ts)) → k < m
below_count ts k m e l = let q : length (take (length ts - 1) (drop 1 ts)) ≡ length ts - 1 =
    ap length (take_rest ts 1) ∙ length-drop 1 ts in omega (arith, l, q, e)
