-- The first number at which a property fails.
--
-- Main results: all_or_first: below each bound a property holds of all numbers, or a first number without it is
-- possible; row_or_first: the same of the numbers from 1 on; other_or_first: the same of all numbers but one.
use Rattle.std.specs.Prelude.{ℕ, ◌≡◌, ◌≢◌, ◌+◌, ◌<◌, ◌≤◌, ◌⊎◌, List, [], ◌∷◌, length, refl}
use Rattle.std.proofs.Common.{zero, suc, get_or, sym, subst, inl, inr, arith}
use Rattle.std.proofs.lemmas.Bool.{cases_eq}
use Rattle.om_existence.specs.Possible.{IsPossible}
use Rattle.om_existence.proofs.Possible.{held, then, mapped, either_way}

-- k is the first number below n without the property
pub record IsFirstFailing (P : ℕ → Type 0) (n k : ℕ) : Type 0 where
  pub below : k < n
  pub fails : P k → ⊥
  pub earlier : (j : ℕ) → j < k → P j

-- all numbers below n have the property
abbrev pub HoldsBelow : (ℕ → Type 0) → ℕ → Type 0
HoldsBelow P n = (k : ℕ) → k < n → P k

one_more : (P : ℕ → Type 0) (n : ℕ) → HoldsBelow P n → P n → HoldsBelow P (suc n)
one_more P n all p k l = elim (cases_eq k n) [
  | inl same ↦ subst P (sym same) p
  | inr other ↦ all k (omega (arith, l, other))
]

pub all_or_first : (P : ℕ → Type 0) (n : ℕ) → IsPossible (HoldsBelow P n ⊎ ((k : ℕ) × IsFirstFailing P n k))
all_or_first P zero = held (inl (λ k l. absurd (omega (arith, l))))
all_or_first P (suc n) = then (all_or_first P n) (λ h. elim h [
  | inr f ↦ held (inr (
    f.0,
    record {
      below = let l = f.1.below in omega (arith, l);
      fails = f.1.fails;
      earlier = f.1.earlier;
    },
  ))
  | inl all ↦ mapped (λ e. elim e [
    | inl p ↦ inl (one_more P n all p)
    | inr not ↦ inr (n, record { below = omega arith; fails = not; earlier = all })
  ]) (either_way (P n))
])

-- ---- from 1 on

-- k is the first of the numbers 1 to n without the property
pub record IsFirstOfRows (P : ℕ → Type 0) (n k : ℕ) : Type 0 where
  pub low : 1 ≤ k
  pub high : k ≤ n
  pub fails : P k → ⊥
  pub earlier : (j : ℕ) → 1 ≤ j → j < k → P j

pub row_or_first : (P : ℕ → Type 0) (n : ℕ)
    → IsPossible (((k : ℕ) → 1 ≤ k → k ≤ n → P k) ⊎ ((k : ℕ) × IsFirstOfRows P n k))
row_or_first P n = mapped (λ h. elim h [
  | inl all ↦ inl (λ k low high. all k (omega (arith, high)) low)
  | inr f ↦ inr (
    f.0,
    record {
      low = positive f.0 f.1.fails;
      high = let l = f.1.below in omega (arith, l);
      fails = λ p. f.1.fails (λ low. p);
      earlier = λ j low less. f.1.earlier j less low;
    },
  )
]) (all_or_first (λ k. 1 ≤ k → P k) (n + 1))
  where
    positive : (k : ℕ) → ((1 ≤ k → P k) → ⊥) → 1 ≤ k
    positive zero fails = absurd (fails (λ l. absurd (omega (arith, l))))
    positive (suc k) fails = omega arith

-- ---- all but one

-- k is the first of the numbers below n but p without the property
pub record IsFirstOther (P : ℕ → Type 0) (p n k : ℕ) : Type 0 where
  pub below : k < n
  pub other : k ≢ p
  pub fails : P k → ⊥
  pub earlier : (j : ℕ) → j < k → j ≢ p → P j

pub other_or_first : (P : ℕ → Type 0) (p n : ℕ)
    → IsPossible (((k : ℕ) → k < n → k ≢ p → P k) ⊎ ((k : ℕ) × IsFirstOther P p n k))
other_or_first P p n = mapped (λ h. elim h [
  | inl all ↦ inl all
  | inr f ↦ inr (
    f.0,
    record {
      below = f.1.below;
      other = λ same. f.1.fails (λ other. absurd (other same));
      fails = λ q. f.1.fails (λ other. q);
      earlier = f.1.earlier;
    },
  )
]) (all_or_first (λ k. k ≢ p → P k) n)

-- ---- lists

-- within a list it doesn't matter what stands for an element that isn't there
pub same_within : {X : Type 0} (xs : List X) (k : ℕ) (d e : X) → k < length xs → get_or xs k d ≡ get_or xs k e
same_within [] k d e l = absurd (omega (arith, l))
same_within (x ∷ xs) zero d e l = refl
same_within (x ∷ xs) (suc k) d e l = same_within xs k d e (omega (arith, l))
