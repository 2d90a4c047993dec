-- Products and sums over places, in one form: an operation with a unit and an order, powers of a value, and the total
-- over the places below a number, each taken as often as a count says.
--
-- Main results: total-add and total-place, the total of a sum and of one place; power_less, more of a greater value is
-- greater.
--
-- Main definitions: Combination, power, total, here
use Rattle.std.specs.Prelude.{ℕ, ◌≡◌, ◌+◌, ◌*◌, ◌<◌, ◌≤◌, cond, nat_eq, refl}
use Rattle.std.proofs.Common.{zero, suc, sym, ◌∙◌, ap, arith, inl, inr}
use Rattle.std.proofs.lemmas.Bool.{cases_eq, eq-eqb, ne_eqb}

-- values that combine, as numbers multiply or add, with an order that combining keeps at positive values
pub record Combination : Type 1 where
  pub Value : Type 0
  pub join : Value → Value → Value
  pub unit : Value
  pub assoc : (u v w : Value) → join (join u v) w ≡ join u (join v w)
  pub comm : (u v : Value) → join u v ≡ join v u
  pub unit_left : (u : Value) → join unit u ≡ u
  pub IsPositive : Value → Type 0
  pub positive_unit : IsPositive unit
  pub positive_join : (u v : Value) → IsPositive u → IsPositive v → IsPositive (join u v)
  pub IsLess : Value → Value → Type 0
  pub irreflexive : (u : Value) → IsLess u u → ⊥
  pub IsAtMost : Value → Value → Type 0
  pub unit_at_most : IsAtMost unit unit
  pub less_at_most : (u v : Value) → IsLess u v → IsAtMost u v
  pub join_at_most : (u v w z : Value) → IsAtMost u v → IsAtMost w z → IsAtMost (join u w) (join v z)
  pub join_less : (u v w z : Value) → IsPositive w → IsLess u v → IsAtMost w z → IsLess (join u w) (join v z)

-- a value combined with itself so many times
abbrev pub power : (C : Combination) → C.Value → ℕ → C.Value
power C u zero = C.unit
power C u (suc k) = C.join u (power C u k)

-- the values at the places below n, each as often as the count says
abbrev pub total : (C : Combination) → (ℕ → C.Value) → (ℕ → ℕ) → ℕ → C.Value
total C f count zero = C.unit
total C f count (suc n) = C.join (power C (f n) (count n)) (total C f count n)

-- 1 at the place itself, and 0 at the others
abbrev pub here : ℕ → ℕ → ℕ
here k p = cond (nat_eq k p) 1 0

module _ (C : Combination) where
  unit_right : (u : C.Value) → C.join u C.unit ≡ u
  unit_right u = C.comm u C.unit ∙ C.unit_left u

  interchange : (a b c d : C.Value) → C.join (C.join a b) (C.join c d) ≡ C.join (C.join a c) (C.join b d)
  interchange a b c d =
      C.assoc a b (C.join c d) ∙ ap (C.join a) (sym (C.assoc b c d) ∙ ap (λ x. C.join x d) (C.comm b c) ∙ C.assoc c b d)
      ∙ sym (C.assoc a c (C.join b d))

  pub power-add : (u : C.Value) (k l : ℕ) → power C u (k + l) ≡ C.join (power C u k) (power C u l)
  power-add u zero l = ap (power C u) (let e : 0 + l ≡ l = omega arith in e) ∙ sym (C.unit_left (power C u l))
  power-add u (suc k) l =
      ap (power C u) (let e : suc k + l ≡ suc (k + l) = omega arith in e) ∙ ap (C.join u) (power-add u k l)
      ∙ sym (C.assoc u (power C u k) (power C u l))

  pub power-join : (u v : C.Value) (k : ℕ) → power C (C.join u v) k ≡ C.join (power C u k) (power C v k)
  power-join u v zero = sym (C.unit_left C.unit)
  power-join u v (suc k) = ap (C.join (C.join u v)) (power-join u v k) ∙ interchange u v (power C u k) (power C v k)

  pub total-same : (f : ℕ → C.Value) (c d : ℕ → ℕ) (n : ℕ) → ((k : ℕ) → k < n → c k ≡ d k)
      → total C f c n ≡ total C f d n
  total-same f c d zero h = refl
  total-same f c d (suc n) h =
      ap (λ x. C.join (power C (f n) x) (total C f c n)) (h n (omega arith))
      ∙ ap (C.join (power C (f n) (d n))) (total-same f c d n (λ k l. h k (omega arith)))

  pub total-none : (f : ℕ → C.Value) (n : ℕ) → total C f (λ k. 0) n ≡ C.unit
  total-none f zero = refl
  total-none f (suc n) = C.unit_left (total C f (λ k. 0) n) ∙ total-none f n

  pub total-add : (f : ℕ → C.Value) (c d : ℕ → ℕ) (n : ℕ)
      → total C f (λ k. c k + d k) n ≡ C.join (total C f c n) (total C f d n)
  total-add f c d zero = sym (C.unit_left C.unit)
  total-add f c d (suc n) =
      ap (λ x. C.join x (total C f (λ k. c k + d k) n)) (power-add (f n) (c n) (d n))
      ∙ ap (C.join (C.join (power C (f n) (c n)) (power C (f n) (d n)))) (total-add f c d n)
      ∙ interchange (power C (f n) (c n)) (power C (f n) (d n)) (total C f c n) (total C f d n)

  -- raising the count of one place by t combines the total with its value t times
  pub total-place : (f : ℕ → C.Value) (t p n : ℕ) → p < n → total C f (λ k. t * here k p) n ≡ power C (f p) t
  total-place f t p zero h = absurd (omega arith)
  total-place f t p (suc n) h = elim (cases_eq n p) [
    | inl e ↦
        ap (λ x. C.join (power C (f n) x) (total C f (λ k. t * here k p) n)) (present n e)
        ∙ ap (C.join (power C (f n) t)) (total-same f (λ k. t * here k p) (λ k. 0) n (λ k l. absent k (omega arith))
        ∙ total-none f n)
        ∙ unit_right (power C (f n) t)
        ∙ ap (λ x. power C (f x) t) e
    | inr a ↦
        ap (λ x. C.join (power C (f n) x) (total C f (λ k. t * here k p) n)) (absent n a)
        ∙ C.unit_left (total C f (λ k. t * here k p) n)
        ∙ total-place f t p n (omega arith)
  ]
    where
      present : (k : ℕ) → k ≡ p → t * here k p ≡ t
      present k e = rw (eq-eqb k p e) (omega arith)

      absent : (k : ℕ) → (k ≡ p → ⊥) → t * here k p ≡ 0
      absent k a = rw (ne_eqb k p a) (omega arith)

  pub power-positive : (u : C.Value) (k : ℕ) → C.IsPositive u → C.IsPositive (power C u k)
  power-positive u zero p = C.positive_unit
  power-positive u (suc k) p = C.positive_join u (power C u k) p (power-positive u k p)

  pub power_at_most : (u v : C.Value) (k : ℕ) → C.IsAtMost u v → C.IsAtMost (power C u k) (power C v k)
  power_at_most u v zero h = C.unit_at_most
  power_at_most u v (suc k) h = C.join_at_most u v (power C u k) (power C v k) h (power_at_most u v k h)

  pub power_less : (u v : C.Value) (k : ℕ) → 1 ≤ k → C.IsPositive u → C.IsLess u v
      → C.IsLess (power C u k) (power C v k)
  power_less u v zero l p h = absurd (omega arith)
  power_less u v (suc k) l p h =
      C.join_less u v (power C u k) (power C v k) (power-positive u k p) h (power_at_most u v k (C.less_at_most u v h))
