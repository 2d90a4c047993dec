-- The greatest number of pairs of a map with no more values than may be read.
--
-- Main results: most_pairs
use Rattle.std.proofs.Common.{ℕ, ◌≡◌, ◌+◌, ◌-◌, ◌*◌, ◌<◌, ◌≤◌, List, [], ◌∷◌, length, get_or, zero, suc, refl, sym}
use Rattle.std.proofs.Common.{subst, arith, inl, inr, Bool, true, ◌&&◌, nat_eq, nat_le}
use Rattle.std.specs.Prelude.{cond}
use Rattle.std.proofs.lemmas.Bool.{and_parts, eqb-true, leb-true, le-leb, cases_lt}
use Rattle.om_signs.specs.declared.limits.TheConstants.{MAX_ELEMENTS, MAX_PLACES, MAX_VALUES}
use Rattle.om_subsets.specs.Subsets.{choose}
use Rattle.om_subsets.specs.declared.binomials.TheConstants.{BINOMIALS}
use Rattle.om_subsets.proofs.Table.{table_entry, choose_above}

-- the entries of a row of the table of binomial coefficients
abbrev side : ℕ
side = MAX_PLACES + 1

-- the number of pairs of rank 8 on 16 elements
abbrev most : ℕ
most = 130873600

-- wherever a binomial coefficient is no more than the values that may be read, the product of its neighbours in the row
-- is within the bound
abbrev row_within : List ℕ → Bool
row_within [] = true
row_within (a ∷ []) = true
row_within (a ∷ b ∷ []) = true
row_within (a ∷ b ∷ c ∷ xs) = cond (nat_le b MAX_VALUES) (nat_le (c * a) most) true && row_within (b ∷ c ∷ xs)

abbrev rows_within : List (List ℕ) → Bool
rows_within [] = true
rows_within (row ∷ rows) = (nat_eq (length row) side && row_within row) && rows_within rows

within_at : (xs : List ℕ) (i d : ℕ) → row_within xs ≡ true → i + 2 < length xs → get_or xs (suc i) d ≤ MAX_VALUES
    → get_or xs (suc (suc i)) d * get_or xs i d ≤ most
within_at [] i d t l few = absurd (omega arith)
within_at (a ∷ []) i d t l few = absurd (omega arith)
within_at (a ∷ b ∷ []) i d t l few = absurd (omega arith)
within_at (a ∷ b ∷ c ∷ xs) zero d t l few =
    let here = (and_parts (cond (nat_le b MAX_VALUES) (nat_le (c * a) most) true) (row_within (b ∷ c ∷ xs)) t).0 in
    leb-true (c * a) most (subst (λ s. cond s (nat_le (c * a) most) true ≡ true) (le-leb b MAX_VALUES few) here)
within_at (a ∷ b ∷ c ∷ xs) (suc i) d t l few =
    within_at (b ∷ c ∷ xs) i d
    (and_parts (cond (nat_le b MAX_VALUES) (nat_le (c * a) most) true) (row_within (b ∷ c ∷ xs)) t).1 (omega arith) few

rows_at : (rows : List (List ℕ)) (n : ℕ) (d : List ℕ) → rows_within rows ≡ true → n < length rows
    → (length (get_or rows n d) ≡ side) × (row_within (get_or rows n d) ≡ true)
rows_at [] n d t l = absurd (omega arith)
rows_at (row ∷ rows) zero d t l =
    let both = and_parts (nat_eq (length row) side) (row_within row)
    (and_parts (nat_eq (length row) side && row_within row) (rows_within rows) t).0 in
    (eqb-true (length row) side both.0, both.1)
rows_at (row ∷ rows) (suc n) d t l =
    rows_at rows n d (and_parts (nat_eq (length row) side && row_within row) (rows_within rows) t).1 (omega arith)

table_within : rows_within BINOMIALS ≡ true
table_within = refl

neighbours : (n i : ℕ) → n ≤ MAX_ELEMENTS → choose n (suc i) ≤ MAX_VALUES → choose n (suc (suc i)) * choose n i ≤ most
neighbours n i ln few = elim (cases_lt n (suc (suc i))) [
  | inl lt ↦ rw (choose_above n (suc (suc i)) lt) (omega arith)
  | inr ge ↦
      let row = get_or BINOMIALS n [] in
      let w = rows_at BINOMIALS n [] table_within (omega (arith, ln)) in
      let l : i + 2 < length row = rw w.0 (omega (arith, ln, ge)) in
      let e = λ (r : ℕ) (le : r ≤ n). table_entry n r [] 0 (omega (arith, ln)) le in
      subst (λ x. x * choose n i ≤ most) (e (suc (suc i)) ge)
      (subst (λ x. get_or row (suc (suc i)) 0 * x ≤ most) (e i (omega (arith, ge)))
      (within_at row i 0 w.1 l (subst (λ x. x ≤ MAX_VALUES) (sym (e (suc i) (omega (arith, ge)))) few)))
]

pub most_pairs : (n r : ℕ) → n ≤ MAX_ELEMENTS → 1 ≤ r → choose n r ≤ MAX_VALUES
    → choose n (r + 1) * choose n (r - 1) ≤ 130873600
most_pairs n zero ln low few = absurd (omega arith)
most_pairs n (suc i) ln low few =
    let up : suc i + 1 ≡ suc (suc i) = omega arith in
    let down : suc i - 1 ≡ i = omega arith in
    subst (λ k. choose n k * choose n (suc i - 1) ≤ most) (sym up)
    (subst (λ k. choose n (suc (suc i)) * choose n k ≤ most) (sym down) (neighbours n i ln few))
