-- The products of the first rows with a column, one after another.
--
-- Main results: first_coefficient, coefficient_more, coefficient_wide
use Rattle.std.specs.Prelude.{ℕ, ◌≡◌, ◌+◌, ◌-◌, ◌≤◌, ℤ, pos, List, [], ◌∷◌, ◌++◌, length}
use Rattle.std.proofs.Common.{arith, sym, ◌∙◌, ap, subst, inl, inr, get_or}
use Rattle.std.proofs.lemmas.Bool.{cases_eq}
use Rattle.std.proofs.lemmas.List.{get_or_push, get_or_append_left, length_push}
use Rattle.om_rows.specs.declared.column.Column.{Column}
use Rattle.om_rows.specs.Rows.{product, IsNarrow, IsWide}
use Rattle.om_rows.proofs.Casts.{stored, stored-narrow}
use Rattle.om_simplex.specs.States.{State, row_of, coefficient}
use Rattle.om_simplex.specs.Pivots.{IsCoefficientWide}
use Rattle.om_simplex.specs.Steps.{AreCoefficients}

-- the price alone
pub first_coefficient : (s : State) (c : Column) (price : ℤ) (ts : List ℤ) → IsNarrow price
    → ts ≡ stored price ∷ [] → price ≡ coefficient s 0 c → AreCoefficients 0 s c ts
first_coefficient s c price ts narrow e p = record {
  size = ap length e;
  each = λ i l.
      let q : i ≡ 0 = omega (arith, l) in
      ap (λ xs. get_or xs i (pos 0)) e ∙ ap (λ k. get_or (stored price ∷ []) k (pos 0)) q
      ∙ stored-narrow price narrow ∙ p ∙ ap (λ k. coefficient s k c) (sym q);
  narrow = λ i p. absurd (let a = p.low in let b = p.high in omega (arith, a, b));
}

-- the product of row k + 1 after those of the rows before it
one_coefficient_more : (s : State) (c : Column) (k : ℕ) (row ts us : List ℤ) (t : ℤ) → row ≡ row_of s (k + 1)
    → IsNarrow (product row c) → t ≡ product row c → us ≡ ts ++ stored t ∷ [] → AreCoefficients k s c ts
    → AreCoefficients (k + 1) s c us
one_coefficient_more s c k row ts us t r narrow e pushed h = record {
  size = ap length pushed ∙ length_push ts (stored t) ∙ ap (λ n. n + 1) h.size;
  each = λ i l. elim (cases_eq i (k + 1)) [
    | inl q ↦ ap (λ xs. get_or xs i (pos 0)) pushed ∙ get_or_push ts (stored t) (pos 0) i (h.size ∙ sym q)
        ∙ stored-narrow t (subst IsNarrow (sym e) narrow) ∙ here ∙ ap (λ n. coefficient s n c) (sym q)
    | inr q ↦ (let size = h.size in ap (λ xs. get_or xs i (pos 0)) pushed
        ∙ get_or_append_left ts (stored t ∷ []) (pos 0) i (omega arith) ∙ h.each i (omega arith))
  ];
  narrow = λ i p. elim (cases_eq i (k + 1)) [
    | inl q ↦ subst (λ n. IsNarrow (coefficient s n c)) (sym q) (subst IsNarrow (sym e ∙ here) narrow)
    | inr q ↦ (let a = p.low in let b = p.high in h.narrow i (record { low = a; high = omega arith }))
  ];
}
  where
    here : t ≡ coefficient s (k + 1) c
    here = e ∙ ap (λ xs. product xs c) r

-- the product of row n after those of the rows before it
pub coefficient_more : (s : State) (c : Column) (i n : ℕ) (row ts us : List ℤ) (t : ℤ) → 1 ≤ i → i ≡ n
    → row ≡ row_of s i → IsNarrow (product row c) → t ≡ product row c → us ≡ ts ++ stored t ∷ []
    → AreCoefficients (i - 1) s c ts → AreCoefficients n s c us
coefficient_more s c i n row ts us t l q r narrow e pushed h =
    let f : i - 1 + 1 ≡ i = omega arith in
    subst (λ k. AreCoefficients k s c us) (f ∙ q)
    (one_coefficient_more s c (i - 1) row ts us t (r ∙ ap (row_of s) (sym f)) narrow e pushed h)

-- row i is the first one whose product is too wide
pub coefficient_wide : (s : State) (c : Column) (m i : ℕ) (row ts : List ℤ) → 1 ≤ i → i ≤ m → row ≡ row_of s i
    → IsWide (product row c) → AreCoefficients (i - 1) s c ts → IsCoefficientWide m s c i
coefficient_wide s c m i row ts low high r wide h = record {
  row = record { low = low; high = high };
  wide = λ n. wide (subst (λ xs. IsNarrow (product xs c)) (sym r) n);
  earlier = λ l a b. h.narrow l (record { low = a; high = omega (arith, b) });
}
