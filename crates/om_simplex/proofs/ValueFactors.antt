-- What the values of the rows with columns say of the state: the factors that turn all of them to whole numbers, and
-- the least one.
--
-- Main results: values_sound, least_up, times_small, times_wide, counts_up, least_exists
use Rattle.std.specs.Prelude.{ℕ, ◌≡◌, ◌+◌, ◌*◌, ◌/◌, ◌<◌, ◌≤◌, pos, ◌*ℤ◌, ◌<ℤ◌, List, length, take, All}
use Rattle.std.specs.List.{Contains}
use Rattle.std.proofs.Common.{arith, sym, ◌∙◌, ap, subst, zero, suc, refl, inl, inr, get_or}
use Rattle.std.proofs.lemmas.Int.{ints}
use Rattle.std.proofs.lemmas.Bool.{cases_eq, cases_lt, cases_order}
use Rattle.std.proofs.lemmas.List.{get_or_default}
use Rattle.std.proofs.lemmas.List.Elements.{Contains-get_or, All-contains}
use Rattle.std.proofs.lemmas.Nat.Gcd.{le_of_dvd}
use Rattle.std.proofs.Math.Nat.{div-mul_cancel, dvd-mul_left}
use Prim.Native.Nat.{◌∣◌}
use Rattle.om_signs.specs.declared.limits.TheConstants.{MAX_MULTIPLICITY}
use Rattle.om_signs.proofs.Rings.{pos-injective}
use Rattle.om_rows.specs.declared.column.Column.{Column}
use Rattle.om_rows.specs.Rows.{IsPlace}
use Rattle.om_simplex.specs.declared.count.Count.{Count}
use Rattle.om_simplex.specs.declared.values.RowValue.{RowValue}
use Rattle.om_simplex.specs.States.{State, basis_number, last_of}
use Rattle.om_simplex.specs.Results.{HasColumn, own, IsTimes, IsFactor, IsLeastFactor, AreTimesSmall, IsTimesWide}
use Rattle.om_simplex.specs.Results.{AreCounts}
use Rattle.om_simplex.specs.Values.{IsReady, AreValuesTo, AreSound, IsCommon, IsLeastCommon, IsScaledBy, IsWideAt}
use Rattle.om_simplex.specs.Values.{AreCounted}
use Rattle.om_simplex.proofs.Gcds.{scaled_once, has_gcd, denominator_is, lcm_exists}
use Rattle.om_simplex.proofs.Scalings.{common_none, common_more, common_all}

module _ (columns : List Column) (m : ℕ) (s : State) where
  -- ---- all rows

  module _ (vs : List RowValue) (ready : IsReady columns m s)
      (distinct : (i l : ℕ) → IsPlace m i → IsPlace m l → basis_number s i ≡ basis_number s l → i ≡ l)
      (are : AreValuesTo columns m s m vs) where
    -- two members of one row are one
    same_row : (v w : RowValue) → Contains vs v → Contains vs w → v.row ≡ w.row → v ≡ w
    same_row v w (a, l, e) (b, g, f) q = elim (cases_order a b) [
      | inl r ↦ sym e ∙ ap (λ k. get_or vs k v) r ∙ get_or_default vs b v w g ∙ f
      | inr r ↦ elim r [
        | inl u ↦
            absurd (let o = are.order a b v u g in let x : (get_or vs a v).row ≡ v.row = ap (λ z. z.row) e in
            let y : (get_or vs b v).row ≡ w.row = ap (λ z. z.row) (get_or_default vs b v w g ∙ f) in omega arith)
        | inr u ↦
            absurd (let o = are.order b a v u l in let x : (get_or vs a v).row ≡ v.row = ap (λ z. z.row) e in
            let y : (get_or vs b v).row ≡ w.row = ap (λ z. z.row) (get_or_default vs b v w g ∙ f) in omega arith)
      ]
    ]

    own_positive : (v : RowValue) → Contains vs v → 1 ≤ v.own
    own_positive v c = let i = are.each v c in let p : pos 0 <ℤ pos v.own =
        subst (λ z. pos 0 <ℤ z) (sym i.own) (ready.own v.row v.column i.has) in omega (arith, ints)

    pub values_sound : AreSound vs
    values_sound = record {
      own = λ k d l. own_positive (get_or vs k d) (Contains-get_or vs k d l);
      columns = λ k d l. (are.each (get_or vs k d) (Contains-get_or vs k d l)).has.column;
      distinct = λ v w a b e.
          let x = are.each v a in
          let y = are.each w b in
          let p = x.has.number in
          let q = y.has.number in
          same_row v w a b (distinct v.row w.row x.has.row y.has.row (omega arith));
    }

    -- the value of a row
    value_at : (i j : ℕ) → HasColumn m s i j → (v : RowValue) × Contains vs v × (v.row ≡ i) × (v.column ≡ j)
    value_at i j h =
        let r = are.every i j h h.row.high in
        let a = (are.each r.0 r.1).has.number in
        let b = h.number in
        let c : basis_number s r.0.row ≡ basis_number s i = ap (basis_number s) r.2 in
        (r.0, r.1, r.2, omega arith)

    -- multiples of values, as natural numbers and as whole ones
    times_up : (v : RowValue) → Contains vs v → (i j factor n : ℕ) → v.row ≡ i → v.column ≡ j
        → n * v.own ≡ factor * v.last → IsTimes columns m s factor i j n
    times_up v c i j factor n e f q =
        let x = are.each v c in
        subst (λ k. pos n *ℤ own columns s i k ≡ pos factor *ℤ last_of m s i) f
        (subst (λ k. pos n *ℤ own columns s k v.column ≡ pos factor *ℤ last_of m s k) e
        (ap (λ z. pos n *ℤ z) (sym x.own) ∙ ap pos q ∙ ap (λ z. pos factor *ℤ z) x.last))

    times_down : (v : RowValue) → Contains vs v → (i j factor n : ℕ) → v.row ≡ i → v.column ≡ j
        → IsTimes columns m s factor i j n → n * v.own ≡ factor * v.last
    times_down v c i j factor n e f t =
        let x = are.each v c in
        let u : IsTimes columns m s factor v.row v.column n =
        subst (λ k. IsTimes columns m s factor k v.column n) (sym e)
        (subst (λ k. IsTimes columns m s factor i k n) (sym f) t) in
        pos-injective (n * v.own) (factor * v.last)
        (ap (λ z. pos n *ℤ z) x.own ∙ u ∙ ap (λ z. pos factor *ℤ z) (sym x.last))

    quotient : (v : RowValue) (factor : ℕ) → v.own ∣ factor * v.last → factor * v.last / v.own * v.own ≡ factor * v.last
    quotient v factor h = div-mul_cancel v.own h

    factor_up : (f : ℕ) → IsCommon vs f → IsFactor columns m s f
    factor_up f h = record {
      positive = h.positive;
      whole = λ i j g.
          let r = value_at i j g in
          let d = All-contains (λ v. v.own ∣ f * v.last) vs r.0 h.whole r.1 in
          (f * r.0.last / r.0.own, times_up r.0 r.1 i j f (f * r.0.last / r.0.own) r.2 r.3 (quotient r.0 f d));
    }

    factor_down : (f : ℕ) → IsFactor columns m s f → IsCommon vs f
    factor_down f h = record {
      positive = h.positive;
      whole = λ k d l.
          let v = get_or vs k d in
          let c = Contains-get_or vs k d l in
          let w = h.whole v.row v.column (are.each v c).has in
          subst (λ x. v.own ∣ x) (times_down v c v.row v.column f w.0 refl refl w.1) (dvd-mul_left v.own w.0);
    }

    pub least_up : (f : ℕ) → IsLeastCommon vs f → IsLeastFactor columns m s f
    least_up f h =
        record {
          is = factor_up f h.is;
          least =
              λ g q. le_of_dvd (let p = q.positive in let z : 0 < g = omega arith in z) (h.least g (factor_down g q));
        }

    pub times_small : (f : ℕ) → All (λ v. IsScaledBy f v) vs → AreTimesSmall columns m s f
    times_small f h i j n g t =
        let r = value_at i j g in
        let k = All-contains (λ v. IsScaledBy f v) vs r.0 h r.1 in
        let e = scaled_once n k.times r.0.own (f * r.0.last) (own_positive r.0 r.1)
        (times_down r.0 r.1 i j f n r.2 r.3 t) k.whole in
        let l = k.small in
        omega arith

    pub times_wide : (f row : ℕ) → IsCommon vs f → IsWideAt vs f row → IsTimesWide columns m s f row
    times_wide f row common h =
        let d = blank in
        let v = get_or vs h.index d in
        let c = Contains-get_or vs h.index d h.below in
        let e : v.row ≡ row = h.here d in
        let q = quotient v f (common.whole h.index d h.below) in
        record {
          j = v.column;
          n = f * v.last / v.own;
          has = subst (λ k. HasColumn m s k v.column) e (are.each v c).has;
          times = times_up v c row v.column f (f * v.last / v.own) e refl q;
          wide = h.wide d (f * v.last / v.own) q;
          earlier = λ l k r b g t. earlier_small l k r b g t;
        }
      where
        blank : RowValue
        blank = record { row = 0; column = 0; own = 0; last = 0 }

        -- a row before the first wide one stands before it
        before : (a : ℕ) (d : RowValue) → a < length vs → {l : ℕ} → (get_or vs a d).row ≡ l → l < row → a < h.index
        before a d la {l} y b = elim (cases_lt a h.index) [
          | inl u ↦ u
          | inr u ↦ absurd (elim (cases_eq a h.index) [
            | inl q ↦
                (let z = h.here d in let x : (get_or vs a d).row ≡ (get_or vs h.index d).row =
                ap (λ k. (get_or vs k d).row) q in omega arith)
            | inr q ↦ (let o = are.order h.index a d (omega arith) la in let z = h.here d in omega arith)
          ])
        ]

        earlier_small : (l k r : ℕ) → l < row → HasColumn m s l k → IsTimes columns m s f l k r → r ≤ MAX_MULTIPLICITY
        earlier_small l k r b g t =
            let w = value_at l k g in
            let a = w.1.0 in
            let below : a < h.index = before a w.0 w.1.1 (ap (λ z. z.row) w.1.2 ∙ w.2) b in
            let x = h.earlier a w.0 below in
            let sc : IsScaledBy f w.0 = subst (IsScaledBy f) w.1.2 x in
            let e = scaled_once r sc.times w.0.own (f * w.0.last) (own_positive w.0 w.1)
            (times_down w.0 w.1 l k f r w.2 w.3 t) sc.whole in
            let z = sc.small in
            omega arith

    pub counts_up : (f last : ℕ) (cs : List Count) → All (λ v. v.column ≤ last) vs → AreCounted vs f last cs
        → AreCounts columns m s f cs
    counts_up f last cs all h = record {
      increasing = h.increasing;
      members = λ c. (
        (λ g. let k = (h.members c).0 g in let x = are.each k.value k.member in record {
          i = k.value.row;
          has = subst (HasColumn m s k.value.row) (sym k.column) x.has;
          times = times_up k.value k.member k.value.row c.column f c.times refl (sym k.column) k.times;
          nonzero = k.nonzero;
        }),
        (λ g. let r = value_at g.i c.column g.has in (h.members c).1 (record {
          value = r.0;
          member = r.1;
          column = sym r.3;
          low = (let l = All-contains (λ v. v.column ≤ last) vs r.0 all r.1 in let q = r.3 in omega arith);
          times = times_down r.0 r.1 g.i c.column f c.times r.2 r.3 g.times;
          nonzero = g.nonzero;
        })),
      );
    }

    -- there is a least factor
    least_to : (n : ℕ) → n ≤ length vs → (f : ℕ) × IsLeastCommon (take n vs) f
    least_to zero l = (1, common_none vs)
    least_to (suc n) l =
        let r = least_to n (omega arith) in
        let v = get_or vs n blank in
        let g = has_gcd (suc v.last) v.own v.last (omega arith) in
        let d = denominator_is v.own v.last g.g (own_positive v (Contains-get_or vs n blank (omega arith))) g.is in
        let k = lcm_exists r.0 (v.own / g.g) r.1.is.positive in (
          k.0,
          subst (λ i. IsLeastCommon (take i vs) k.0) (let e : n + 1 ≡ suc n = omega arith in e)
              (common_more vs n r.0 (v.own / g.g) k.0 blank (omega arith) r.1 d k.1),
        )
      where
        blank : RowValue
        blank = record { row = 0; column = 0; own = 0; last = 0 }

    pub least_exists : (f : ℕ) × IsLeastCommon vs f
    least_exists = let r = least_to (length vs) (omega arith) in (r.0, common_all vs (length vs) r.0 (omega arith) r.1)
