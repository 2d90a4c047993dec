-- A state of the run of the linear program goes on, or the run ends there.
--
-- Main results: entering_possible: a column enters, has a price that is too wide, or none enters; step_possible: a
-- column that enters leads to a next state, or to a number that is too wide.
use Rattle.std.specs.Prelude.{ℕ, ◌≡◌, ◌+◌, ◌<◌, ◌≤◌, ℤ, pos, ◌<ℤ◌, List, length, Option, Some, None}
use Rattle.std.specs.Prelude.{refl}
use Rattle.std.proofs.Common.{zero, suc, get_or, subst, inl, inr, arith}
use Rattle.std.proofs.lemmas.Bool.{cases_eq}
use Rattle.std.proofs.lemmas.Int.{by_lt_z}
use Rattle.om_rows.specs.declared.column.Column.{Column}
use Rattle.om_rows.specs.Rows.{IsPlace, IsNarrow, IsNarrowAt}
use Rattle.om_simplex.specs.declared.outcome.Outcome.{Outcome}
use Rattle.om_simplex.specs.declared.outcome.Outcome.TheVariants.{Width}
use Rattle.om_simplex.specs.declared.stage.Stage.TheVariants.{Column as AtColumn, Update}
use Rattle.om_simplex.specs.Exchanges.{IsPivotEnd, at_column}
use Rattle.om_simplex.specs.Pivots.{IsPricedOut, IsEntering, IsPriceWide, HasNoEntering}
use Rattle.om_simplex.specs.States.{State, row_of, basis_number, column_of, coefficient}
use Rattle.om_simplex.specs.Steps.{AreCoefficients, AreNumbersDistinct, IsBestOf, IsAheadBy, IsLeavingBy}
use Rattle.om_simplex.specs.Steps.{IsUpdateNarrowBy}
use Rattle.om_simplex.specs.Steps.{IsWideBy}
use Rattle.om_simplex.specs.Tables.{with_number}
use Rattle.om_simplex.proofs.Firsts.{best_start, best_passed, best_found, best_taken, best_stays, best_last}
use Rattle.om_simplex.proofs.Runs.{numbers_distinct, has_positive, exchange_up}
use Rattle.om_simplex.proofs.Soundness.{IsReachedState}
use Rattle.om_existence.specs.Possible.{IsPossible}
use Rattle.om_existence.proofs.FirstPlaces.{IsFirstOfRows, row_or_first, IsFirstOther, other_or_first}
use Rattle.om_existence.proofs.Possible.{held, then, mapped, either_way}
use Rattle.om_existence.proofs.RowParts.{updated_state, coefficient_list}

-- ---- the column that enters

-- which column enters
pub data Enters (columns : List Column) (s : State) : Type 0 where
  at : (j : ℕ) → IsEntering columns s j → Enters columns s
  wide : (j : ℕ) → IsPriceWide columns s j → Enters columns s
  nowhere : HasNoEntering columns s → Enters columns s

module _ (columns : List Column) (s : State) where
  abbrev price : ℕ → ℤ
  price j = coefficient s 0 (column_of columns j)

  first_priced : (j : ℕ) → IsFirstOfRows (IsPricedOut columns s) (length columns) j → IsPossible (Enters columns s)
  first_priced j f = mapped (λ e. elim e [
    | inr not ↦ wide j (record {
      number = record { low = f.low; high = f.high };
      earlier = λ i low less. f.earlier i low less;
      wide = not;
    })
    | inl narrow ↦ at j (record {
      number = record { low = f.low; high = f.high };
      earlier = λ i low less. f.earlier i low less;
      narrow = narrow;
      price = by_lt_z (price j) (pos 0) (λ less. less)
          (λ most. absurd (f.fails (record { narrow = narrow; price = most })));
    })
  ]) (either_way (IsNarrow (price j)))

  pub entering_possible : IsPossible (Enters columns s)
  entering_possible = then (row_or_first (IsPricedOut columns s) (length columns)) (λ h. elim h [
    | inl all ↦ held (nowhere (λ j place. all j place.low place.high))
    | inr f ↦ first_priced f.0 f.1
  ])

-- ---- the row that leaves

module _ (m : ℕ) (s : State) (ts : List ℤ) (size : length s.basis ≡ m)
    (distinct : (i l : ℕ) → IsPlace m i → IsPlace m l → basis_number s i ≡ basis_number s l → i ≡ l) where
  abbrev t : ℕ → ℤ
  t i = get_or ts i (pos 0)

  numbers : AreNumbersDistinct s
  numbers i l h g = distinct i l (subst (λ k. IsPlace k i) size h) (subst (λ k. IsPlace k l) size g)

  next_best : (n best : ℕ) → n < m → IsBestOf m s ts n best → pos 0 <ℤ t (n + 1)
      → IsPossible ((best : ℕ) × IsBestOf m s ts (n + 1) best)
  next_best n best l is positive = elim (cases_eq best 0) [
    | inl none ↦ held (n + 1, best_found m s ts n positive (subst (IsBestOf m s ts n) none is))
    | inr some ↦ mapped (λ e. elim e [
      | inl ahead ↦ (n + 1, best_taken m s ts n best positive is some ahead)
      | inr behind ↦ (best, best_stays m s ts n best l numbers size is some behind)
    ]) (either_way (IsAheadBy m s ts (n + 1) best))
  ]

  best_possible : (n : ℕ) → n ≤ m → IsPossible ((best : ℕ) × IsBestOf m s ts n best)
  best_possible zero l = held (0, best_start m s ts)
  best_possible (suc n) l =
      let e : n + 1 ≡ suc n = omega arith in
      subst (λ k. IsPossible ((best : ℕ) × IsBestOf m s ts k best)) e
      (then (best_possible n (omega (arith, l))) (λ h.
      by_lt_z (pos 0) (t (n + 1))
      (λ positive. next_best n h.0 (omega (arith, l)) h.1 positive)
      (λ most. held (h.0, best_passed m s ts n h.0 most h.1))))

-- ---- the rows past the pivot

module _ (m : ℕ) (s : State) (ts : List ℤ) (p : ℕ) where
  -- the numbers at a place of row i fit
  abbrev IsNarrowHere : ℕ → ℕ → Type 0
  IsNarrowHere i q = IsNarrowAt (get_or ts p (pos 0)) (row_of s i) (get_or ts i (pos 0)) (row_of s p) q

  first_wide : (i : ℕ) → IsFirstOther (IsUpdateNarrowBy s ts p) p (m + 1) i
      → IsPossible ((q : ℕ) × IsWideBy m s ts p i q)
  first_wide i f = then (row_or_first (IsNarrowHere i) (length (row_of s i))) (λ h. elim h [
    | inl all ↦ absurd (f.fails (λ q place. all q place.low place.high))
    | inr g ↦ held (
      g.0,
      record {
        row = let l = f.below in omega (arith, l);
        other = f.other;
        place = record {
          place = record { low = g.1.low; high = g.1.high };
          wide = g.1.fails;
          earlier = g.1.earlier;
        };
        earlier = λ l less other. f.earlier l less other;
      },
    )
  ])

-- ---- one step

module _ (columns : List Column) (m k : ℕ) (s : State) (sound : IsReachedState columns m s) (j : ℕ)
    (entering : IsEntering columns s j) where
  abbrev c : Column
  c = column_of columns j

  -- what comes of the column that enters
  abbrev HasEnd : Type 0
  HasEnd = (s' : State) × ((o : Option Outcome) × IsPivotEnd columns m s k j s' o)

  past_row : (ts : List ℤ) → AreCoefficients m s c ts → (p : ℕ) → IsLeavingBy m s ts p → IsPossible HasEnd
  past_row ts are p leaving = then (other_or_first (IsUpdateNarrowBy s ts p) p (m + 1)) (λ h. elim h [
    | inr f ↦ mapped (λ g. let o : Outcome = Width Update (k + 1) f.0 g.0 in (
      s,
      (
        Some o,
        exchange_up columns m s sound j entering ts are k s (Some o)
            (record { p = p; i = f.0; q = g.0; leaving = leaving; wide = g.1; end = refl }),
      ),
    )) (first_wide m s ts p f.0 f.1)
    | inl narrow ↦
        let u = updated_state m s ts p sound.size (let l = leaving.row.high in omega (arith, l)) narrow in
        let s' : State = with_number u.0 p (m + j) in
        held (
          s',
          (
            None,
            exchange_up columns m s sound j entering ts are k s' None
                (record { p = p; between = u.0; leaving = leaving; updated = u.1; numbered = refl }),
          ),
        )
  ])

  narrow_row : ((i : ℕ) → IsPlace m i → IsNarrow (coefficient s i c)) → IsPossible HasEnd
  narrow_row narrow =
      let h = coefficient_list m s c narrow in
      then (best_possible m s h.0 sound.basis_size (numbers_distinct columns m s sound) m (omega arith)) (λ best.
      past_row h.0 h.1 best.0 (best_last m s h.0 best.0 (has_positive columns m s sound j entering h.0 h.1) best.1))

  pub step_possible : IsPossible HasEnd
  step_possible = then (row_or_first (λ i. IsNarrow (coefficient s i c)) m) (λ h. elim h [
    | inl narrow ↦ narrow_row (λ i place. narrow i place.low place.high)
    | inr f ↦ held (
      s,
      (
        Some (Width AtColumn (k + 1) f.0 j),
        at_column f.0
            (record { row = record { low = f.1.low; high = f.1.high }; wide = f.1.fails; earlier = f.1.earlier }),
      ),
    )
  ])
