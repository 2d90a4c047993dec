-- The values of the rows in a balanced state: whether their products fit, the least factor, and whether the values that
-- it makes whole are within the limit.
--
-- Main results: own_possible, least_factor, times_possible; own_is, last_is, times_down: the product of a row with its
-- column and its last number are natural, and so are counts by them.
use Rattle.std.specs.Prelude.{ℕ, ◌≡◌, ◌≢◌, ◌-◌, ◌*◌, ◌<◌, ◌≤◌, ◌⊎◌, ℤ, pos, ◌*ℤ◌, List}
use Rattle.std.proofs.Common.{zero, suc, sym, ◌∙◌, ap, subst, inl, inr, arith}
use Rattle.std.proofs.Math.IntN.{pos-*ℤ-pos}
use Rattle.std.proofs.lemmas.Bool.{cases_eq, cases_lt}
use Rattle.std.proofs.lemmas.Nat.{mul-le}
use Rattle.om_signs.specs.declared.limits.TheConstants.{MAX_MULTIPLICITY}
use Rattle.om_signs.proofs.Rings.{pos-injective}
use Rattle.om_rows.specs.declared.column.Column.{Column}
use Rattle.om_rows.specs.Rows.{IsNarrow}
use Rattle.om_simplex.specs.Results.{HasColumn, own, AreOwnNarrow, IsOwnWide, IsTimes, IsFactor, IsLeastFactor}
use Rattle.om_simplex.specs.Results.{AreTimesSmall, IsTimesWide}
use Rattle.om_simplex.specs.States.{State, basis_number, last_of}
use Rattle.om_simplex.specs.Values.{IsReady}
use Rattle.om_simplex.proofs.Products.{positive_is, natural_is}
use Rattle.om_existence.specs.Possible.{IsPossible}
use Rattle.om_existence.proofs.FirstPlaces.{IsFirstOfRows, row_or_first}
use Rattle.om_existence.proofs.Possible.{held, then, mapped, either_way, least}

-- ---- products of natural numbers

times_up : (n f a b : ℕ) (x y : ℤ) → x ≡ pos a → y ≡ pos b → n * a ≡ f * b → pos n *ℤ x ≡ pos f *ℤ y
times_up n f a b x y e g h =
    ap (λ z. pos n *ℤ z) e ∙ pos-*ℤ-pos n a ∙ ap pos h ∙ sym (pos-*ℤ-pos f b) ∙ sym (ap (λ z. pos f *ℤ z) g)

pub times_down : (n f a b : ℕ) (x y : ℤ) → x ≡ pos a → y ≡ pos b → pos n *ℤ x ≡ pos f *ℤ y → n * a ≡ f * b
times_down n f a b x y e g h =
    pos-injective (n * a) (f * b)
    (sym (pos-*ℤ-pos n a) ∙ sym (ap (λ z. pos n *ℤ z) e) ∙ h ∙ ap (λ z. pos f *ℤ z) g ∙ pos-*ℤ-pos f b)

module _ (columns : List Column) (m : ℕ) (s : State) (ready : IsReady columns m s) where
  -- ---- the columns of the rows

  column_or_not : (i : ℕ) → ((j : ℕ) × HasColumn m s i j) ⊎ ((j : ℕ) → HasColumn m s i j → ⊥)
  column_or_not i = elim (cases_lt m i) [
    | inl past ↦ inr (λ j h. let l = h.row.high in absurd (omega (arith, l, past)))
    | inr within ↦ elim (cases_lt 0 i) [
      | inr none ↦ inr (λ j h. let l = h.row.low in absurd (omega (arith, l, none)))
      | inl some ↦ elim (cases_lt m (basis_number s i)) [
        | inr few ↦ inr (λ j h. let e = h.number in let c = h.column in absurd (omega (arith, e, c, few)))
        | inl more ↦ inl (
          basis_number s i - m,
          record {
            row = record { low = omega (arith, some); high = within };
            column = omega (arith, more);
            number = omega (arith, more);
          },
        )
      ]
    ]
  ]

  one_column : (i j k : ℕ) → HasColumn m s i j → HasColumn m s i k → j ≡ k
  one_column i j k h g = let e = h.number in let f = g.number in omega (arith, e, f)

  -- the product of a row with its column, and its last number
  pub own_is : (i j : ℕ) → HasColumn m s i j → (n : ℕ) × (own columns s i j ≡ pos (suc n))
  own_is i j h = positive_is (own columns s i j) (ready.own i j h)

  pub last_is : (i j : ℕ) → HasColumn m s i j → (n : ℕ) × (last_of m s i ≡ pos n)
  last_is i j h = natural_is (last_of m s i) (ready.last i h.row)

  -- ---- whether the products fit

  abbrev IsOwnNarrowAt : ℕ → Type 0
  IsOwnNarrowAt i = (j : ℕ) → HasColumn m s i j → IsNarrow (own columns s i j)

  first_wide : (i : ℕ) → IsFirstOfRows IsOwnNarrowAt m i → IsOwnWide columns m s i
  first_wide i f = elim (column_or_not i) [
    | inr none ↦ absurd (f.fails (λ j h. absurd (none j h)))
    | inl c ↦ record {
      j = c.0;
      has = c.1;
      wide = λ narrow. f.fails (λ j h. subst (λ k. IsNarrow (own columns s i k)) (one_column i c.0 j c.1 h) narrow);
      earlier = λ l k less h. f.earlier l h.row.low less k h;
    }
  ]

  pub own_possible : IsPossible (AreOwnNarrow columns m s ⊎ ((i : ℕ) × IsOwnWide columns m s i))
  own_possible = mapped (λ h. elim h [
    | inl all ↦ inl (λ i j h. all i h.row.low h.row.high j h)
    | inr f ↦ inr (f.0, first_wide f.0 f.1)
  ]) (row_or_first IsOwnNarrowAt m)

  -- ---- the least factor

  -- a factor for the first n rows
  record IsFactorTo (n f : ℕ) : Type 0 where
    pub positive : 1 ≤ f
    pub whole : (i j : ℕ) → HasColumn m s i j → i ≤ n → (k : ℕ) × IsTimes columns m s f i j k

  own_at : (n q j i l : ℕ) → HasColumn m s (suc n) j → own columns s (suc n) j ≡ pos (suc q) → i ≡ suc n
      → HasColumn m s i l → own columns s i l ≡ pos (suc q)
  own_at n q j i l c e same g =
      ap (λ x. own columns s x l) same
      ∙ ap (own columns s (suc n)) (one_column (suc n) l j (subst (λ x. HasColumn m s x l) same g) c)
      ∙ e

  next_whole : (n f q j : ℕ) → IsFactorTo n f → HasColumn m s (suc n) j → own columns s (suc n) j ≡ pos (suc q)
      → (i l : ℕ) → HasColumn m s i l → i ≤ suc n → (i ≡ suc n) ⊎ (i ≢ suc n)
      → (k : ℕ) × IsTimes columns m s (f * suc q) i l k
  next_whole n f q j h c e i l g most (inl same) =
      let r = last_is i l g in
      let at = own_at n q j i l c e same g in
      (f * r.0, times_up (f * r.0) (f * suc q) (suc q) r.0 (own columns s i l) (last_of m s i) at r.1 (omega arith))
  next_whole n f q j h c e i l g most (inr other) =
      let k = h.whole i l g (omega (arith, most, other)) in
      let r = last_is i l g in
      let o = own_is i l g in
      let d = times_down k.0 f (suc o.0) r.0 (own columns s i l) (last_of m s i) o.1 r.1 k.1 in (
        k.0 * suc q,
        times_up (k.0 * suc q) (f * suc q) (suc o.0) r.0 (own columns s i l) (last_of m s i) o.1 r.1
            (scaled k.0 f (suc o.0) r.0 (suc q) d),
      )
    where
      scaled : (k f a b q : ℕ) → k * a ≡ f * b → k * q * a ≡ f * q * b
      scaled k f a b q d = let e : k * a * q ≡ f * b * q = ap (λ x. x * q) d in omega (arith, e)

  factor_to : (n : ℕ) → (f : ℕ) × IsFactorTo n f
  factor_to zero = (
    1,
    record {
      positive = omega arith;
      whole = λ i j h l. let low = h.row.low in absurd (omega (arith, low, l));
    },
  )
  factor_to (suc n) = elim (column_or_not (suc n)) [
    | inr none ↦
        let h = factor_to n in (
          h.0,
          record {
            positive = h.1.positive;
            whole = λ i j g l. elim (cases_eq i (suc n)) [
              | inl same ↦ absurd (none j (subst (λ x. HasColumn m s x j) same g))
              | inr other ↦ h.1.whole i j g (omega (arith, l, other))
            ];
          },
        )
    | inl c ↦
        let h = factor_to n in
        let o = own_is (suc n) c.0 c.1 in
        let p = h.1.positive in (
          h.0 * suc o.0,
          record {
            positive = let l : 1 * 1 ≤ h.0 * suc o.0 = mul-le 1 1 h.0 (suc o.0) p (omega arith) in omega (arith, l);
            whole = λ i j g l. next_whole n h.0 o.0 c.0 h.1 c.1 o.1 i j g l (cases_eq i (suc n));
          },
        )
  ]

  pub least_factor : IsPossible ((f : ℕ) × IsLeastFactor columns m s f)
  least_factor =
      let h = factor_to m in
      mapped (λ l. (
        l.0,
        record {
          is = l.1.has;
          least = λ f g. elim (cases_lt f l.0) [ inl less ↦ absurd (l.1.below f less g) | inr most ↦ most ];
        },
      ))
      (least (λ f. f) (IsFactor columns m s) h.0
      (record { positive = h.1.positive; whole = λ i j g. h.1.whole i j g g.row.high }))

  module _ (factor : ℕ) where
    -- ---- whether the values are within the limit

    abbrev IsTimesSmallAt : ℕ → Type 0
    IsTimesSmallAt i = (j n : ℕ) → HasColumn m s i j → IsTimes columns m s factor i j n → n ≤ MAX_MULTIPLICITY

    abbrev IsGreatAt : ℕ → Type 0
    IsGreatAt i =
        (j : ℕ) × ((n : ℕ) × (HasColumn m s i j × (IsTimes columns m s factor i j n × (MAX_MULTIPLICITY < n))))

    small_else : (i : ℕ) → (IsGreatAt i → ⊥) → IsTimesSmallAt i
    small_else i none j n h t = elim (cases_lt MAX_MULTIPLICITY n) [
      | inl great ↦ absurd (none (j, (n, (h, (t, great)))))
      | inr small ↦ small
    ]

    first_great : (i : ℕ) → IsFirstOfRows IsTimesSmallAt m i → IsGreatAt i → IsTimesWide columns m s factor i
    first_great i f g = record {
      j = g.0;
      n = g.1.0;
      has = g.1.1.0;
      times = g.1.1.1.0;
      wide = g.1.1.1.1;
      earlier = λ l k r less h t. f.earlier l h.row.low less k r h t;
    }

    pub times_possible : IsPossible (AreTimesSmall columns m s factor ⊎ ((i : ℕ) × IsTimesWide columns m s factor i))
    times_possible = then (row_or_first IsTimesSmallAt m) (λ h. elim h [
      | inl all ↦ held (inl (λ i j n h t. all i h.row.low h.row.high j n h t))
      | inr f ↦ mapped (λ e. elim e [
        | inl g ↦ inr (f.0, first_great f.0 f.1 g)
        | inr none ↦ absurd (f.1.fails (small_else f.0 none))
      ]) (either_way (IsGreatAt f.0))
    ])
