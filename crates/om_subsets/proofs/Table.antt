-- The table of the binomial coefficients has the right entries.
--
-- Main results: table_entry, choose_above, choose_most
use Rattle.std.proofs.Common.{ℕ, ◌≡◌, ◌+◌, ◌<◌, ◌≤◌, List, [], ◌∷◌, length, get_or, zero, suc, refl, ◌∙◌, ap, arith}
use Rattle.std.proofs.Common.{Bool, true, ◌&&◌, nat_eq, add-zero, zero-add}
use Rattle.std.proofs.lemmas.Bool.{and_parts, eqb-true, leb-true, cases_lt}
use Rattle.std.proofs.Common.{nat_le, inl, inr}
use Rattle.om_subsets.specs.Subsets.{choose}
use Rattle.om_subsets.specs.declared.binomials.TheConstants.{BINOMIALS, SIDE, MOST_SUBSETS}
use Rattle.om_signs.specs.declared.limits.TheConstants.{MAX_PLACES}

abbrev row_agrees : List ℕ → ℕ → ℕ → Bool
row_agrees [] n r = true
row_agrees (x ∷ xs) n r = nat_eq x (choose n r) && row_agrees xs n (suc r)

abbrev rows_agree : List (List ℕ) → ℕ → Bool
rows_agree [] n = true
rows_agree (row ∷ rows) n = (nat_eq (length row) SIDE && row_agrees row n 0) && rows_agree rows (suc n)

row_at : (xs : List ℕ) (n r i d : ℕ) → row_agrees xs n r ≡ true → i < length xs → get_or xs i d ≡ choose n (r + i)
row_at [] n r i d t l = absurd (omega arith)
row_at (x ∷ xs) n r zero d t l =
    rw (add-zero r) (eqb-true x (choose n r) (and_parts (nat_eq x (choose n r)) (row_agrees xs n (suc r)) t).0)
row_at (x ∷ xs) n r (suc i) d t l =
    let e : suc r + i ≡ r + suc i = omega arith in
    row_at xs n (suc r) i d (and_parts (nat_eq x (choose n r)) (row_agrees xs n (suc r)) t).1 (omega arith)
    ∙ ap (choose n) e

rows_at : (rows : List (List ℕ)) (n i : ℕ) (d : List ℕ) → rows_agree rows n ≡ true → i < length rows
    → (length (get_or rows i d) ≡ SIDE) × (row_agrees (get_or rows i d) (n + i) 0 ≡ true)
rows_at [] n i d t l = absurd (omega arith)
rows_at (row ∷ rows) n zero d t l =
    let both = and_parts (nat_eq (length row) SIDE) (row_agrees row n 0)
    (and_parts (nat_eq (length row) SIDE && row_agrees row n 0) (rows_agree rows (suc n)) t).0 in
    rw (add-zero n) (eqb-true (length row) SIDE both.0, both.1)
rows_at (row ∷ rows) n (suc i) d t l =
    let e : suc n + i ≡ n + suc i = omega arith in
    rw (← e) (rows_at rows (suc n) i d
    (and_parts (nat_eq (length row) SIDE && row_agrees row n 0) (rows_agree rows (suc n)) t).1 (omega arith))

table_agrees : rows_agree BINOMIALS 0 ≡ true
table_agrees = refl

-- row n of the table, up to MAX_PLACES, has the number of ways to choose r of n at place r, for r up to n
pub table_entry : (n r : ℕ) (d : List ℕ) (e : ℕ) → n ≤ MAX_PLACES → r ≤ n
    → get_or (get_or BINOMIALS n d) r e ≡ choose n r
table_entry n r d e ln lr =
    let w = rows_at BINOMIALS 0 n d table_agrees (omega arith) in
    let l : r < length (get_or BINOMIALS n d) = rw w.0 (omega arith) in
    row_at (get_or BINOMIALS n d) (0 + n) 0 r e w.1 l ∙ rw (zero-add n, zero-add r) refl

-- there is no way to choose more than there are
pub choose_above : (n r : ℕ) → n < r → choose n r ≡ 0
choose_above n zero l = absurd (omega arith)
choose_above zero (suc r) l = refl
choose_above (suc n) (suc r) l =
    let a = choose_above n r (omega arith) in
    let b = choose_above n (suc r) (omega arith) in
    omega arith

abbrev row_small : List ℕ → Bool
row_small [] = true
row_small (x ∷ xs) = nat_le x MOST_SUBSETS && row_small xs

abbrev rows_small : List (List ℕ) → Bool
rows_small [] = true
rows_small (row ∷ rows) = row_small row && rows_small rows

small_in_row : (xs : List ℕ) (i d : ℕ) → row_small xs ≡ true → d ≤ MOST_SUBSETS → get_or xs i d ≤ MOST_SUBSETS
small_in_row [] i d t h = h
small_in_row (x ∷ xs) zero d t h = leb-true x MOST_SUBSETS (and_parts (nat_le x MOST_SUBSETS) (row_small xs) t).0
small_in_row (x ∷ xs) (suc i) d t h = small_in_row xs i d (and_parts (nat_le x MOST_SUBSETS) (row_small xs) t).1 h

small_rows : (rows : List (List ℕ)) (i : ℕ) (d : List ℕ) → rows_small rows ≡ true → row_small d ≡ true
    → row_small (get_or rows i d) ≡ true
small_rows [] i d t h = h
small_rows (row ∷ rows) zero d t h = (and_parts (row_small row) (rows_small rows) t).0
small_rows (row ∷ rows) (suc i) d t h = small_rows rows i d (and_parts (row_small row) (rows_small rows) t).1 h

table_small : rows_small BINOMIALS ≡ true
table_small = refl

-- up to MAX_PLACES there are at most MOST_SUBSETS ways to choose r of n
pub choose_most : (n r : ℕ) → n ≤ MAX_PLACES → choose n r ≤ MOST_SUBSETS
choose_most n r h = elim (cases_lt n r) [
  | inl lt ↦ rw (choose_above n r lt) (omega arith)
  | inr ge ↦
      rw (← table_entry n r [] 0 h ge)
      (small_in_row (get_or BINOMIALS n []) r 0 (small_rows BINOMIALS n [] table_small refl) (omega arith))
]
