-- The basis numbers and the rows of a state after a pivot.
--
-- Main definitions: IsFactorOf
-- Main results: low, dot-column, number-here, number-other, factor_of, widths', numbers', own', others', last',
-- spanning'
use Rattle.std.specs.Prelude.{ℕ, ◌≡◌, ◌≢◌, ◌+◌, ◌-◌, ◌<◌, ◌≤◌, ℤ, pos, ◌-ℤ◌, ◌*ℤ◌, ◌<ℤ◌, ◌≤ℤ◌, List, length}
use Rattle.std.proofs.Common.{arith, sym, ◌∙◌, ap, subst, inl, inr, get_or}
use Rattle.std.proofs.lemmas.Int.{ints}
use Rattle.std.proofs.lemmas.Bool.{cases_eq}
use Rattle.std.proofs.lemmas.List.{get_or-set_same, get_or-set_other}
use Rattle.om_rows.specs.declared.column.Column.{Column}
use Rattle.om_rows.specs.Rows.{entry, IsPlace}
use Rattle.om_rows.proofs.Combinations.{length-combination}
use Rattle.om_simplex.specs.States.{State, row_of, basis_number, column_of, coefficient, last_of}
use Rattle.om_simplex.specs.Pivots.{IsEntering, IsLeaving, IsPivoted, combined}
use Rattle.om_simplex.proofs.Products.{pivot_positive, pivot_zero, pivot_cancelled, pivot_natural, pivot_back}
use Rattle.om_simplex.proofs.Dots.{Vector, dot, unit, vector, dot-vector, dot-combination, has_factor}
use Rattle.om_simplex.proofs.Soundness.{basis_vector, IsReachedState, vector_column, dot-last}

-- a state, the column j that enters it, the row p that leaves it, and the state after the pivot
module _ (columns : List Column) (m : ℕ) (s s' : State) (j p : ℕ) (sound : IsReachedState columns m s)
    (entering : IsEntering columns s j) (leaving : IsLeaving m s (column_of columns j) p)
    (pivoted : IsPivoted m s j (column_of columns j) p s') where
  abbrev c : Column
  c = column_of columns j

  abbrev t : ℕ → ℤ
  t i = coefficient s i c

  abbrev d : ℕ → Vector → ℤ
  d i y = dot (row_of s i) y

  abbrev d' : ℕ → Vector → ℤ
  d' i y = dot (row_of s' i) y

  positive : pos 0 <ℤ t p
  positive = leaving.positive

  pub low : p ≤ m
  low = leaving.row.high

  pub dot-column : (i : ℕ) → i ≤ m → d i (vector m c) ≡ t i
  dot-column i l = dot-vector (row_of s i) m c (sound.widths i l)

  column-kept : d' p (vector m c) ≡ t p
  column-kept = ap (λ xs. dot xs (vector m c)) pivoted.kept ∙ dot-column p low

  -- ---- basis numbers

  pub number-here : basis_number s' p ≡ m + j
  number-here =
      let l = leaving.row.low in
      let e = sound.basis_size in
      ap (λ xs. get_or xs (p - 1) 0) pivoted.basis ∙ get_or-set_same s.basis (p - 1) (m + j) 0 (omega arith)

  pub number-other : (i : ℕ) → IsPlace m i → i ≢ p → basis_number s' i ≡ basis_number s i
  number-other i h n =
      let l = leaving.row.low in
      let k = h.low in
      ap (λ xs. get_or xs (i - 1) 0) pivoted.basis
      ∙ get_or-set_other s.basis (p - 1) (i - 1) (m + j) 0 (λ e. n (omega arith))

  vector-here : basis_vector columns m (basis_number s' p) ≡ vector m c
  vector-here = ap (basis_vector columns m) number-here ∙ vector_column columns m j entering.number.low

  -- ---- rows

  pub record IsFactorOf (i g : ℕ) : Type 0 where
    pub positive : 1 ≤ g
    pub size : length (row_of s' i) ≡ m
    pub dots : (y : Vector) → pos g *ℤ d' i y ≡ t p *ℤ d i y -ℤ t i *ℤ d p y

  pub factor_of : (i : ℕ) → i ≤ m → i ≢ p → (g : ℕ) × IsFactorOf i g
  factor_of i l n =
      let f = has_factor (combined s c p i) (row_of s' i) (pivoted.others i l n) in
      let e : length (row_of s p) ≡ length (row_of s i) = sound.widths p low ∙ sym (sound.widths i l) in (
        f.factor,
        record {
          positive = f.positive;
          size = f.size ∙ length-combination (t p) (row_of s i) (t i) (row_of s p) e ∙ sound.widths i l;
          dots = λ y. sym (f.dots y) ∙ dot-combination (t p) (row_of s i) (t i) (row_of s p) y e;
        },
      )

  factor_positive : (i g : ℕ) → IsFactorOf i g → pos 0 <ℤ pos g
  factor_positive i g h = let l = h.positive in omega (arith, ints)

  pub widths' : (i : ℕ) → i ≤ m → length (row_of s' i) ≡ m
  widths' i l = elim (cases_eq i p) [
    | inl e ↦ ap (λ k. length (row_of s' k)) e ∙ ap length pivoted.kept ∙ sound.widths p low
    | inr n ↦ (factor_of i l n).1.size
  ]

  pub numbers' : (i : ℕ) → IsPlace m i → IsPlace (m + length columns) (basis_number s' i)
  numbers' i h = elim (cases_eq i p) [
    | inl e ↦
        (let q : basis_number s' i ≡ m + j = ap (basis_number s') e ∙ number-here in let a = entering.number.low in
        let b = entering.number.high in record { low = omega arith; high = omega arith })
    | inr n ↦ subst (IsPlace (m + length columns)) (sym (number-other i h n)) (sound.numbers i h)
  ]

  pub own' : (i : ℕ) → IsPlace m i → pos 0 <ℤ d' i (basis_vector columns m (basis_number s' i))
  own' i h = elim (cases_eq i p) [
    | inl e ↦ subst (λ k. pos 0 <ℤ d' k (basis_vector columns m (basis_number s' k))) (sym e)
        (subst (λ z. pos 0 <ℤ z) (sym (ap (d' p) vector-here ∙ column-kept)) positive)
    | inr n ↦
        (let v = basis_vector columns m (basis_number s i) in
        let f = factor_of i h.high n in
        subst (λ b. pos 0 <ℤ d' i (basis_vector columns m b)) (sym (number-other i h n))
        (pivot_positive (pos f.0) (d' i v) (t p) (d i v) (t i) (d p v) (factor_positive i f.0 f.1) (f.1.dots v)
        (sound.others p i leaving.row h (λ e. n (sym e))) positive (sound.own i h)))
  ]

  pub others' : (i l : ℕ) → IsPlace m i → IsPlace m l → i ≢ l → d' i (basis_vector columns m (basis_number s' l))
      ≡ pos 0
  others' i l h g ne = elim (cases_eq i p) [
    | inl e ↦
        (let n : l ≢ p = λ q. ne (e ∙ sym q) in
        ap (λ k. d' k (basis_vector columns m (basis_number s' l))) e
        ∙ ap (λ b. d' p (basis_vector columns m b)) (number-other l g n)
        ∙ ap (λ xs. dot xs (basis_vector columns m (basis_number s l))) pivoted.kept
        ∙ sound.others p l leaving.row g (λ q. n (sym q)))
    | inr n ↦
        (let f = factor_of i h.high n in
        elim (cases_eq l p) [
          | inl e ↦
              ap (λ k. d' i (basis_vector columns m (basis_number s' k))) e ∙ ap (d' i) vector-here
              ∙ pivot_cancelled (pos f.0) (d' i (vector m c)) (t p) (t i) (factor_positive i f.0 f.1)
              (f.1.dots (vector m c) ∙ ap (λ z. t p *ℤ z -ℤ t i *ℤ d p (vector m c)) (dot-column i h.high)
              ∙ ap (λ z. t p *ℤ t i -ℤ t i *ℤ z) (dot-column p low))
          | inr k ↦
              (let v = basis_vector columns m (basis_number s l) in
              ap (λ b. d' i (basis_vector columns m b)) (number-other l g k)
              ∙ pivot_zero (pos f.0) (d' i v) (t p) (d i v) (t i) (d p v) (factor_positive i f.0 f.1) (f.1.dots v)
              (sound.others p l leaving.row g (λ q. k (sym q))) (sound.others i l h g ne))
        ])
  ]

  ratio : (i : ℕ) → IsPlace m i → i ≢ p → pos 0 <ℤ t i → (last_of m s p *ℤ t i) ≤ℤ (last_of m s i *ℤ t p)
  ratio i h n q = elim (leaving.first i h n q) [
    | inl a ↦ omega (arith, ints)
    | inr a ↦ (let e = a.0 in omega (arith, ints))
  ]

  pub last' : (i : ℕ) → IsPlace m i → pos 0 ≤ℤ last_of m s' i
  last' i h = elim (cases_eq i p) [
    | inl e ↦
        subst (λ k. pos 0 ≤ℤ last_of m s' k) (sym e)
        (subst (λ xs. pos 0 ≤ℤ entry xs m) (sym pivoted.kept) (sound.last p leaving.row))
    | inr n ↦
        (let f = factor_of i h.high n in
        let u = unit (m - 1) in
        subst (λ z. pos 0 ≤ℤ z) (dot-last m s' i)
        (pivot_natural (pos f.0) (d' i u) (t p) (d i u) (t i) (d p u) (factor_positive i f.0 f.1) (f.1.dots u) positive
        (subst (λ z. pos 0 ≤ℤ z) (sym (dot-last m s i)) (sound.last i h))
        (subst (λ z. pos 0 ≤ℤ z) (sym (dot-last m s p)) (sound.last p leaving.row))
        (λ q. subst (λ z. (z *ℤ t i) ≤ℤ (d i u *ℤ t p)) (sym (dot-last m s p))
        (subst (λ z. (last_of m s p *ℤ t i) ≤ℤ (z *ℤ t p)) (sym (dot-last m s i)) (ratio i h n q)))))
  ]

  pub spanning' : (y : Vector) → ((i : ℕ) → IsPlace m i → d' i y ≡ pos 0) → (q : ℕ) → q < m → y q ≡ pos 0
  spanning' y h = sound.spanning y back
    where
      pivot_row : d p y ≡ pos 0
      pivot_row = ap (λ xs. dot xs y) (sym pivoted.kept) ∙ h p leaving.row

      back : (i : ℕ) → IsPlace m i → d i y ≡ pos 0
      back i g = elim (cases_eq i p) [
        | inl e ↦ ap (λ k. d k y) e ∙ pivot_row
        | inr n ↦
            (let f = factor_of i g.high n in
            pivot_back (pos f.0) (d' i y) (t p) (d i y) (t i) (d p y) (f.1.dots y) positive (h i g) pivot_row)
      ]
