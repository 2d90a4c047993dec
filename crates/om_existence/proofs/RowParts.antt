-- Each row has a primitive part, and each state has one after a pivot.
--
-- Main results: primitive_part; updated_state: the state with the rows past a pivot; coefficient_list: the products of
-- the rows with a column as a list.
use Rattle.std.specs.Prelude.{ℕ, ◌≡◌, ◌≢◌, ◌+◌, ◌/◌, ◌<◌, ◌≤◌, ℤ, pos, negsuc, ◌-ℤ◌, ◌*ℤ◌, List, [], length, map}
use Rattle.std.specs.Prelude.{take, unsigned_abs, refl}
use Rattle.std.specs.List.{range_with_len}
use Rattle.std.proofs.Common.{zero, suc, get_or, sym, ◌∙◌, ap, subst, inl, inr, arith}
use Rattle.std.proofs.lemmas.Bool.{cases_eq, cases_lt}
use Rattle.std.proofs.lemmas.Int.{ints}
use Rattle.std.proofs.lemmas.List.{take_all, length-map, get_or-map, get_or_past}
use Rattle.std.proofs.lemmas.List.FromFn.{length-map-range_with_len, get_or-map-range_with_len}
use Rattle.std.proofs.lemmas.Nat.Gcd.{dvd-zero}
use Prim.Native.Nat.{◌∣◌}
use Rattle.om_rows.specs.declared.column.Column.{Column}
use Rattle.om_rows.specs.Divisors.{IsContent, IsPrimitivePart}
use Rattle.om_rows.specs.Rows.{IsPlace, IsNarrow}
use Rattle.om_rows.proofs.Contents.{content_more, part_of_small, part_of_content, quotient_up, quotient_down}
use Rattle.om_simplex.specs.States.{State, row_of, coefficient}
use Rattle.om_simplex.specs.Steps.{AreCoefficients, combined_by, IsUpdateNarrowBy, AreUpdated}
use Rattle.om_simplex.proofs.Gcds.{has_gcd}

-- ---- the greatest common divisor of a row

no_numbers : (row : List ℤ) → IsContent (take 0 row) 0
no_numbers row = record { common = λ k d l. absurd (omega (arith, l)); greatest = λ d a. dvd-zero d }

content_to : (row : List ℤ) (i : ℕ) → i ≤ length row → (g : ℕ) × IsContent (take i row) g
content_to row zero l = (0, no_numbers row)
content_to row (suc i) l =
    let h = content_to row i (omega (arith, l)) in
    let z = unsigned_abs (get_or row i (pos 0)) in
    let d = has_gcd (suc z) h.0 z (omega arith) in
    let e : i + 1 ≡ suc i = omega arith in
    (d.g, subst (λ k. IsContent (take k row) d.g) e (content_more row i h.0 d.g (omega (arith, l)) h.1 d.is))

content_of : (row : List ℤ) → (g : ℕ) × IsContent row g
content_of row =
    let h = content_to row (length row) (omega arith) in
    (h.0, subst (λ xs. IsContent xs h.0) (take_all (length row) row (omega arith)) h.1)

-- ---- what is left of a row

abbrev quotient : ℕ → ℤ → ℤ
quotient d (pos n) = pos (n / d)
quotient d (negsuc n) = pos 0 -ℤ pos (suc n / d)

times_quotient : (d : ℕ) (z : ℤ) → d ∣ unsigned_abs z → z ≡ pos d *ℤ quotient d z
times_quotient d (pos n) h = quotient_up (pos n) n d (omega (arith, ints)) refl h
times_quotient d (negsuc n) h = quotient_down (negsuc n) (suc n) d (omega (arith, ints)) (omega arith) h

pub primitive_part : (row : List ℤ) → (part : List ℤ) × IsPrimitivePart row part
primitive_part row = elim (cases_lt 1 (content_of row).0) [
  | inr small ↦ (row, part_of_small row (content_of row).0 (content_of row).1 small)
  | inl great ↦
      let g = (content_of row).0 in
      let h = (content_of row).1 in (
        map (quotient g) row,
        part_of_content row (map (quotient g) row) g h (omega (arith, great)) (length-map row (quotient g)) (λ k l.
            times_quotient g (get_or row k (pos 0)) (h.common k (pos 0) l)
            ∙ ap (λ z. pos g *ℤ z) (sym (get_or-map (quotient g) row k (pos 0) (pos 0) l))),
      )
]

-- ---- the rows past a pivot

module _ (m : ℕ) (s : State) (ts : List ℤ) (p : ℕ) where
  -- row i past the pivot in row p, with what it is
  record IsRowPast (i : ℕ) (row : List ℤ) : Type 0 where
    pub kept : i ≡ p → row ≡ row_of s i
    pub part : i ≢ p → IsPrimitivePart (combined_by s ts p i) row

  row_past : (i : ℕ) → (row : List ℤ) × IsRowPast i row
  row_past i = elim (cases_eq i p) [
    | inl same ↦ (row_of s i, record { kept = λ e. refl; part = λ other. absurd (other same) })
    | inr other ↦
        let h = primitive_part (combined_by s ts p i) in
        (h.0, record { kept = λ e. absurd (other e); part = λ n. h.1 })
  ]

  abbrev past : State
  past = record { basis = s.basis; rows = map (λ i. (row_past i).0) (range_with_len 0 (m + 1)) }

  past_row : (i : ℕ) → i < m + 1 → row_of past i ≡ (row_past i).0
  past_row i l = get_or-map-range_with_len (λ i. (row_past i).0) 0 (m + 1) i i [] l (omega arith)

  pub updated_state : length s.rows ≡ m + 1 → p < m + 1 → ((i : ℕ) → i < m + 1 → i ≢ p → IsUpdateNarrowBy s ts p i)
      → (s' : State) × AreUpdated m s ts p (m + 1) s'
  updated_state size within narrow = (
    past,
    record {
      basis = refl;
      size = length-map-range_with_len (λ i. (row_past i).0) 0 (m + 1) ∙ sym size;
      kept = past_row p within ∙ (row_past p).1.kept refl;
      later = λ i l. get_or_past (map (λ i. (row_past i).0) (range_with_len 0 (m + 1))) i []
          (let e = length-map-range_with_len (λ i. (row_past i).0) 0 (m + 1) in omega (arith, e, l))
          ∙ sym (get_or_past s.rows i [] (omega (arith, size, l)));
      others = λ i l n. subst (IsPrimitivePart (combined_by s ts p i)) (sym (past_row i l)) ((row_past i).1.part n);
      narrow = narrow;
    },
  )

-- ---- the products with a column

pub coefficient_list : (m : ℕ) (s : State) (c : Column) → ((i : ℕ) → IsPlace m i → IsNarrow (coefficient s i c))
    → (ts : List ℤ) × AreCoefficients m s c ts
coefficient_list m s c narrow = (
  map (λ i. coefficient s i c) (range_with_len 0 (m + 1)),
  record {
    size = length-map-range_with_len (λ i. coefficient s i c) 0 (m + 1);
    each = λ i l.
        get_or-map-range_with_len (λ i. coefficient s i c) 0 (m + 1) i i (pos 0) (omega (arith, l)) (omega arith);
    narrow = narrow;
  },
)
