-- The table of the rows of a map, as it is filled.
--
-- Main results: row_before, a row by that of the two elements exchanged; filled_written and
-- rows_up_to, the rows of one element; place_within and row_found, a row in the table.
use Rattle.std.specs.Prelude.{ℕ, ◌≡◌, ◌+◌, ◌-◌, ◌<◌, ◌≤◌, List, [], ◌∷◌, length, map, replicate}
use Rattle.std.proofs.Common.{refl, sym, ap, ◌∙◌, subst, inl, inr, arith, get_or, lit≤}
use Rattle.std.proofs.lemmas.List.{get_or_default, get_or-replicate}
use Rattle.std.proofs.lemmas.Bool.{ne_eqb, lt-ltb}
use Rattle.om_signs.specs.declared.sign.Sign.{Sign}
use Rattle.om_signs.specs.declared.sign.Sign.TheVariants.{Zero}
use Rattle.om_signs.specs.Sign.{opposite}
use Rattle.om_subsets.specs.Subsets.{IsSubsetFrom, IsMember, with_element}
use Rattle.om_subsets.proofs.Statements.{subset_is_increasing}
use Rattle.om_subsets.proofs.OneElement.{not_in_single}
use Rattle.om_laws.specs.Sorting.{IsElement}
use Rattle.om_chirotope.specs.Map.{SignMap, cocircuit_vector}
use Rattle.om_chirotope.proofs.Rows.{AreWritten, none_written, row_odd}
use Rattle.om_chirotope.specs.Pictures.{AreRowsBelow}
use Rattle.om_wiring.specs.Tables.{IsTable}

-- ---- the row of two elements that differ

-- the set of one element
pub single_list : (n p : ℕ) → IsElement n p → IsSubsetFrom 1 n (p ∷ [])
single_list n p i = (subset_is_increasing n (p ∷ [])).1 (tt, within)
  where
    within : (e : ℕ) → IsMember e (p ∷ []) → IsElement n e
    within e (inl q) = subst (IsElement n) (sym q) i
    within e (inr q) = absurd q

-- the row of p and x, negated, is that of x and p
pub row_before : (m : SignMap) (p x : ℕ) → IsElement m.elements x → p < x
    → map opposite (cocircuit_vector m (p ∷ x ∷ [])) ≡ cocircuit_vector m (x ∷ p ∷ [])
row_before m p x i l =
    ap (λ a. map opposite (cocircuit_vector m a)) (sym pair)
    ∙ row_odd m (x ∷ []) p (single_list m.elements x i) (not_in_single x p (omega arith)) (rw (lt-ltb p x l) refl)
  where
    pair : with_element p (x ∷ []) ≡ p ∷ x ∷ []
    pair = rw (ne_eqb p x (omega arith), lt-ltb p x l) refl

-- ---- the rows of one element, as they are filled

-- before the first row is found, all rows are zero
pub filled_written : (m : SignMap) (p : List ℕ) (n : ℕ) (row : List Sign) → row ≡ replicate n Zero → n ≡ m.elements
    → AreWritten m p (replicate 21 row) 1
filled_written m p n row e en =
    none_written m p (replicate 21 row) (lit≤ tt)
    (λ k l. get_or-replicate 21 k row [] (omega (arith, l)) ∙ e ∙ ap (λ n. replicate n Zero) en)

-- the rows that are found when the loop is over
pub rows_up_to : (m : SignMap) (p : List ℕ) (rows : List (List Sign)) (k n : ℕ) → n ≡ m.elements → n + 1 ≤ k
    → AreRowsBelow m p rows k → AreRowsBelow m p rows (m.elements + 1)
rows_up_to m p rows k n e l h = record { lengths = h.lengths; row = λ x low b. h.row x low (omega arith) }

-- ---- the rows of the whole table

-- a place for each element x in the row of p
pub place_within : (m n : SignMap) (table : List (List (List Sign))) (p x : ℕ) → IsTable m table → m ≡ n
    → IsElement n.elements p → IsElement n.elements x → x - 1 < length (get_or table (p - 1) [])
place_within m n table p x t e ip ix =
    let k = ap (λ m. m.elements) e in
    let high = t.high in
    let low = ix.0 in
    let top = ix.1 in
    let last = ip.1 in
    let room = (t.rows p ip.0 (omega arith)).0 in
    omega (arith, k, high, low, top, room)

-- the row of p and x, whatever is read beyond the table
pub row_found : (m n : SignMap) (table : List (List (List Sign))) (p x : ℕ) (other : List Sign) → IsTable m table
    → m ≡ n → IsElement n.elements p → IsElement n.elements x
    → get_or (get_or table (p - 1) []) (x - 1) other ≡ cocircuit_vector n (p ∷ x ∷ [])
row_found m n table p x other t e ip ix =
    let k = ap (λ m. m.elements) e in
    let top = ix.1 in
    let last = ip.1 in
    get_or_default (get_or table (p - 1) []) (x - 1) other [] (place_within m n table p x t e ip ix)
    ∙ (t.rows p ip.0 (omega arith)).1.row x ix.0 (omega arith)
    ∙ ap (λ m. cocircuit_vector m (p ∷ x ∷ [])) e
